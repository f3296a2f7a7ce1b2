-- What was read ahead stands in the log's frames: of nothing, and over calls that change no frame.
use Rattle.std.proofs.Common.{◌≡◌, ℕ, ◌+◌, ◌-◌, ◌≤◌, Bool, true, List, [], length, take, drop, Some, refl, sym, ap, subst, ◌∙◌, arith}
use Rattle.std.specs.Prelude.{IsTrue}
use Rattle.std.specs.FinMap as map
use Rattle.std.proofs.lemmas.List.{drop-take, take-take, drop-drop, length-take-le}
use Rattle.ax_disk.specs.model.Moments.{History}
use Rattle.ax_disk.specs.model.Calls.{Idles}
use Rattle.ax_area_laws.specs.Risen.{risen}
use Rattle.ax_pages.specs.Area.{frames_bytes}
use Rattle.ax_pages.specs.Contents.{Contents}
use Rattle.ax_log.specs.Agreement as log
use Rattle.ax_log.specs.AgreementLaws.{agrees_idles}
use Rattle.ax_cache.specs.Pages.{CachedPages}
use Rattle.ax_store.specs.declared.read_ahead.ReadAhead.{ReadAhead}
use Rattle.ax_store.specs.declared.store.Store.{Store}
use Rattle.ax_store.specs.Cached.{HasBytesAt}
use Rattle.ax_store.specs.Store.{Agrees}
use Rattle.ax_store.specs.ReadAhead.{AgreesAhead, AgreesAheadUnlessFailed, IsNothingAhead, SameAhead, IsShown, IsAhead, ahead_bytes, ahead_text}
use Rattle.ax_store.specs.Loading.{nothing_kept, TakesOn}
use Rattle.ax_store.proofs.PartPlaces.{IsReadable}
use Rattle.ax_store.proofs.Saying.{ahead_says}
use Rattle.ax_store.proofs.StoreLemmas.{caches_same}

-- the store agrees after a read beside its cache, and what was read stands in its frames
pub ahead_read : {C : Type 0} (pages : C → CachedPages) (old new : Store C) (ahead : ReadAhead) (before after : History) (agrees : Agrees pages old before)
    → new.log ≡ old.log → new.pages ≡ old.pages → new.cache ≡ old.cache → Idles before after
    → HasBytesAt (frames_bytes agrees.frames) ahead.from (ahead_bytes ahead) → AgreesAhead pages new ahead after
ahead_read pages old new ahead before after agrees logged same cache idles stands = record {
  agrees = record {
    frames = agrees.frames;
    logged = agrees_idles new.log agrees.frames before after (subst (λ l. log.Agrees l agrees.frames before) (sym logged) agrees.logged) idles;
    takes = subst (TakesOn agrees.frames 0 nothing_kept) (sym same) agrees.takes;
    caches = caches_same pages old new agrees.frames logged cache agrees.caches;
  };
  stands = stands;
}

-- ---- laws for clients

nothing_stands : (text bytes : List ℕ) (from : ℕ) → from ≡ 0 → bytes ≡ [] → HasBytesAt text from bytes
nothing_stands text bytes from start none = record {
  within = omega (arith, start, ap length none);
  is = ap (λ (b : List ℕ). take (length b) (drop from text)) none ∙ sym none;
}

-- where nothing was read
pub ahead_of_nothing : {C : Type 0} (pages : C → CachedPages) (store : Store C) (history : History) → Agrees pages store history → (ahead : ReadAhead)
    → IsNothingAhead ahead → AgreesAhead pages store ahead history
ahead_of_nothing pages store history agrees ahead nothing = record {
  agrees = agrees;
  stands = nothing_stands (frames_bytes agrees.frames) (ahead_bytes ahead) ahead.from nothing.from nothing.bytes;
}

-- the store alone
pub without_ahead : {C : Type 0} (pages : C → CachedPages) (store : Store C) (ahead : ReadAhead) (history : History) → AgreesAhead pages store ahead history
    → Agrees pages store history
without_ahead pages store ahead history agrees = agrees.agrees

-- it agrees still where no list changed
pub ahead_still : {C : Type 0} (pages : C → CachedPages) (store : Store C) (ahead : ReadAhead) (old new : History) → AgreesAhead pages store ahead old
    → Idles old new → AgreesAhead pages store ahead new
ahead_still pages store ahead old new agrees idles = ahead_read pages store store ahead old new agrees.agrees refl refl refl idles agrees.stands

-- and with a disk that is as honest as before
pub ahead_honest : {C : Type 0} (pages : C → CachedPages) (before after : Bool) (store : Store C) (ahead : ReadAhead) (history : History) → after ≡ before
    → AgreesAheadUnlessFailed pages before store ahead history → AgreesAheadUnlessFailed pages after store ahead history
ahead_honest pages before after store ahead history same agrees = λ honest. agrees (subst IsTrue same honest)

-- ---- what was read

front_of : (at len filled : ℕ) (items : List ℕ) → at + len ≤ filled → take len (drop at (take filled items)) ≡ take len (drop at items)
front_of at len filled items within =
    let more : ℕ = filled - at in
    let split : filled ≡ at + more = omega (arith, within) in
    ap (λ (n : ℕ). take len (drop at (take n items))) split
    ∙ ap (take len) (drop-take at more items)
    ∙ take-take len more (drop at items) (omega (arith, within))

-- bytes among those that stand at a place are those at their own place
pub shown_text : (text items : List ℕ) (start filled from at len : ℕ) → HasBytesAt text start (take filled items) → filled ≤ length items → start + at ≡ from
    → at + len ≤ filled → take len (drop at items) ≡ take len (drop from text)
shown_text text items start filled from at len has room place within =
    let long : length (take filled items) ≡ filled = length-take-le filled items room in
    let same : take filled (drop start text) ≡ take filled items = ap (λ (n : ℕ). take n (drop start text)) (sym long) ∙ has.is in
    sym (front_of at len filled items within)
    ∙ ap (λ (l : List ℕ). take len (drop at l)) (sym same)
    ∙ front_of at len filled (drop start text) within
    ∙ ap (take len) (drop-drop at start text)
    ∙ ap (λ (n : ℕ). take len (drop n text)) place

-- the text that is shown is the one that stands there
pub shown_is : (ahead : ReadAhead) (text : List ℕ) (end from len : ℕ) (bytes : List ℕ) → HasBytesAt text ahead.from (ahead_bytes ahead)
    → ahead.filled ≤ length ahead.bytes.items → IsShown ahead from len → IsReadable text end from len bytes → ahead_text ahead ≡ bytes
shown_is ahead text end from len bytes has room shown is =
    ap (λ (n : ℕ). take n (drop ahead.at ahead.bytes.items)) shown.long
    ∙ shown_text text ahead.bytes.items ahead.from ahead.filled from ahead.at len has room shown.place shown.within
    ∙ ap (λ (n : ℕ). take n (drop from text)) is.len_is
    ∙ is.begins (drop from text) refl

-- the same bytes stand there still
pub stands_same : (old new : ReadAhead) (text : List ℕ) → SameAhead old new → HasBytesAt text old.from (ahead_bytes old)
    → HasBytesAt text new.from (ahead_bytes new)
stands_same old new text same has =
    subst (λ (n : ℕ). HasBytesAt text n (ahead_bytes new)) (sym same.from)
    (subst (λ (bytes : List ℕ). HasBytesAt text old.from bytes) (sym same.bytes) has)

-- ---- of a document

-- the text that is shown is that of the document
pub is_ahead : (ahead : ReadAhead) (text : List ℕ) (end from len : ℕ) (payload : List ℕ) (old : Contents) (number : ℕ)
    → Some payload ≡ map.get old.documents number
    → HasBytesAt text ahead.from (ahead_bytes ahead) → ahead.filled ≤ length ahead.bytes.items
    → IsShown ahead from len → IsReadable text end from len (drop 1 payload) → IsAhead (map.get (risen old).documents number) true (ahead_text ahead)
is_ahead ahead text end from len payload old number there has room shown is =
    ahead_says old number payload (ahead_text ahead) there (shown_is ahead text end from len (drop 1 payload) has room shown is)

-- the store and what was read ahead agree still where the same bytes of the same place are kept
pub same_ahead : {C : Type 0} (pages : C → CachedPages) (store : Store C) (old new : ReadAhead) (history : History) → SameAhead old new
    → AgreesAhead pages store old history → AgreesAhead pages store new history
same_ahead pages store old new history same before = record {
  agrees = before.agrees;
  stands = stands_same old new (frames_bytes before.agrees.frames) same before.stands;
}
