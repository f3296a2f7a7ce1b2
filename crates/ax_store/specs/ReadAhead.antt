-- Texts that were read ahead, as contracts see them: which bytes of the area that counts they are, and
-- which of them is the text that was asked for last.
-- It is this project's own; it comes from no public document.
use Rattle.std.specs.Prelude.{◌≡◌, ℕ, ◌+◌, ◌≤◌, Bool, true, false, List, [], take, drop, Option, Some, None, IsTrue}
use Rattle.ax_disk.specs.model.Moments.{History}
use Rattle.ax_area.specs.Contents.{Stored}
use Rattle.ax_pages.specs.Area.{frames_bytes}
use Rattle.ax_cache.specs.Pages.{CachedPages}
use Rattle.ax_store.specs.declared.read_ahead.ReadAhead.{ReadAhead}
use Rattle.ax_store.specs.declared.store.Store.{Store}
use Rattle.ax_store.specs.Cached.{HasBytesAt}
use Rattle.ax_store.specs.Store.{Agrees, store_failed}

-- the bytes that were read; behind them the vector has room that was read before, or never
abbrev pub ahead_bytes : ReadAhead → List ℕ
ahead_bytes ahead = take ahead.filled ahead.bytes.items

-- the text that was asked for last
abbrev pub ahead_text : ReadAhead → List ℕ
ahead_text ahead = take ahead.len (drop ahead.at ahead.bytes.items)

-- nothing was read
pub record IsNothingAhead (ahead : ReadAhead) : Type 0 where
  pub from : ahead.from ≡ 0
  pub bytes : ahead_bytes ahead ≡ []

-- the same bytes of the same place
pub record SameAhead (old new : ReadAhead) : Type 0 where
  pub from : new.from ≡ old.from
  pub bytes : ahead_bytes new ≡ ahead_bytes old

-- the text is the one of that place and length, which is among the bytes
pub record IsShown (ahead : ReadAhead) (from len : ℕ) : Type 0 where
  pub place : ahead.from + ahead.at ≡ from
  pub long : ahead.len ≡ len
  pub within : ahead.at + len ≤ ahead.filled

-- The store agrees with the disk by some frames, and what was read ahead stands in these.
pub record AgreesAhead {C : Type 0} (pages : C → CachedPages) (store : Store C) (ahead : ReadAhead) (history : History) : Type 0 where
  pub agrees : Agrees pages store history
  pub stands : HasBytesAt (frames_bytes agrees.frames) ahead.from (ahead_bytes ahead)

-- the same with a disk that is honest, until the store has failed
abbrev pub AgreesAheadUnlessFailed : {C : Type 0} → (C → CachedPages) → Bool → Store C → ReadAhead → History → Type 0
AgreesAheadUnlessFailed pages honest store ahead history =
    IsTrue honest → store_failed store ≡ false → AgreesAhead pages store ahead history

-- what is shown is the text of the document, or there is no such document
abbrev pub IsAhead : Option Stored → Bool → List ℕ → Type 0
IsAhead (Some document) found text = (found ≡ true) × (text ≡ document.text)
IsAhead None found text = found ≡ false
