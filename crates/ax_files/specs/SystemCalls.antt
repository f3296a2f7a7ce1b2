-- What the system is asked of an open file.
pub data SystemCall : Type 0 where
  -- its length
  Size : SystemCall
  -- a piece of it
  ReadPiece : SystemCall
  -- that bytes are written
  WriteWhole : SystemCall
  -- that it is made shorter
  Shorten : SystemCall
  -- that a crash leaves what reads give
  Sync : SystemCall
