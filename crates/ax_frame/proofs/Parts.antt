-- One spelling for each part and for each list of parts, and what bytes of parts are seen as.
use Rattle.std.proofs.Common.{◌≡◌, ℕ, zero, suc, ◌<◌, ◌≤◌, List, [], ◌∷◌, ◌++◌, length, take, drop, refl, sym, ap, subst, ◌∙◌, length-append, arith}
use Rattle.std.specs.Prelude.{Result, Ok, Err, OnOk, OnErr}
use Rattle.std.specs.Int.{w32, to_le_bytes, from_le_bytes}
use Rattle.std.proofs.lemmas.List.{take_at, drop_at, append-nil, append_assoc}
use Rattle.std.proofs.lemmas.List.Concat.{flat_map-append}
use Rattle.std.proofs.lemmas.Nat.{from_le_bytes-to_le_bytes_4}
use Rattle.ax_frame.specs.Part.{PartValue, part_bytes, parts_bytes, Fits, AllFit, AreParts, BeginsWithPart, NoPart}
use Rattle.ax_frame.specs.View.{first_part, parts_within, parts_in, Spells}

-- bytes that begin with the spelling of a part begin with that part
pub first_part_again : (p : PartValue) (more : List ℕ) → Fits p → first_part (part_bytes p ++ more) ≡ (p, more)
first_part_again p more fit =
    let key-is = from_le_bytes-to_le_bytes_4 p.key fit.key_fits in
    let len-is = from_le_bytes-to_le_bytes_4 (length p.payload) (omega (arith, fit.payload_fits)) in
    let seen : ℕ → ℕ → PartValue × List ℕ = λ key len. (record { kind = p.kind; key = key; payload = take len (p.payload ++ more) }, drop len (p.payload ++ more)) in
    ap (λ (key : ℕ). seen key (from_le_bytes w32 (to_le_bytes w32 (length p.payload)))) key-is ∙ ap (seen p.key) len-is
    ∙ rw (take_at p.payload more (length p.payload) refl, drop_at p.payload more (length p.payload) refl) refl

-- two parts with which the same bytes begin are the same, and so is what follows
pub one_part : (p q : PartValue) (x y : List ℕ) → Fits p → Fits q → part_bytes p ++ x ≡ part_bytes q ++ y → (p ≡ q) × (x ≡ y)
one_part p q x y fp fq e =
    let same : (p, x) ≡ (q, y) = sym (first_part_again p x fp) ∙ ap first_part e ∙ first_part_again q y fq in
    (ap (λ (f : PartValue × List ℕ). f.0) same, ap (λ (f : PartValue × List ℕ). f.1) same)

list_within : (ps : List PartValue) (most : ℕ) → AllFit ps → length (parts_bytes ps) ≤ most → parts_within most (parts_bytes ps) ≡ ps
unfolding parts_within
list_within [] zero fit le = refl
list_within [] (suc most) fit le = refl
list_within (p ∷ ps) zero fit le = absurd (omega arith)
list_within (p ∷ ps) (suc most) fit le =
    ap (λ (f : PartValue × List ℕ). f.0 ∷ parts_within most f.1) (first_part_again p (parts_bytes ps) fit.0)
    ∙ ap (λ (qs : List PartValue). p ∷ qs) (list_within ps most fit.1 (omega (arith, length-append p.payload (parts_bytes ps))))

-- a list of parts is what its spelling is seen as
pub parts_again : (ps : List PartValue) → AllFit ps → parts_in (parts_bytes ps) ≡ ps
unfolding parts_in
parts_again ps fit = list_within ps (length (parts_bytes ps)) fit (omega arith)

parts_bytes-spells : (ps : List PartValue) → AllFit ps → Spells (parts_bytes ps)
unfolding Spells
parts_bytes-spells ps fit = let again = parts_again ps fit in (subst AllFit (sym again) fit, ap parts_bytes (sym again))

pub fit_of : (bytes : List ℕ) → Spells bytes → AllFit (parts_in bytes)
unfolding Spells
fit_of bytes spells = spells.0

pub spelled_of : (bytes : List ℕ) → Spells bytes → bytes ≡ parts_bytes (parts_in bytes)
unfolding Spells
spelled_of bytes spells = spells.1

-- the spelling of a list spells that list
pub record Seen (bytes : List ℕ) (ps : List PartValue) : Type 0 where
  pub spells : Spells bytes
  pub are : parts_in bytes ≡ ps

pub seen_as : (bytes : List ℕ) (ps : List PartValue) → AllFit ps → bytes ≡ parts_bytes ps → Seen bytes ps
seen_as bytes ps fit e = subst (λ (bs : List ℕ). Seen bs ps) (sym e) (record { spells = parts_bytes-spells ps fit; are = parts_again ps fit })

pub one_list : (ps qs : List PartValue) → AllFit ps → AllFit qs → parts_bytes ps ≡ parts_bytes qs → ps ≡ qs
one_list ps qs fp fq e = sym (parts_again ps fp) ∙ ap parts_in e ∙ parts_again qs fq

-- ---- from the first part on

AllFit-push : (ps : List PartValue) (p : PartValue) → AllFit ps → Fits p → AllFit (ps ++ p ∷ [])
AllFit-push [] p all fit = (fit, tt)
AllFit-push (q ∷ ps) p all fit = (all.0, AllFit-push ps p all.1 fit)

pub pushed : (old new : List ℕ) (p : PartValue) → Spells old → Fits p → new ≡ old ++ part_bytes p → Seen new (parts_in old ++ p ∷ [])
pushed old new p spells fit e =
    let spelled : new ≡ parts_bytes (parts_in old ++ p ∷ []) =
    e ∙ ap (λ (bs : List ℕ). bs ++ part_bytes p) (spelled_of old spells)
    ∙ ap (λ (bs : List ℕ). parts_bytes (parts_in old) ++ bs) (sym (append-nil (part_bytes p)))
    ∙ sym (flat_map-append part_bytes (parts_in old) (p ∷ [])) in
    seen_as new (parts_in old ++ p ∷ []) (AllFit-push (parts_in old) p (fit_of old spells) fit) spelled

pub nothing_seen : Seen [] []
nothing_seen = seen_as [] [] tt refl

-- a list whose spelling begins with a part begins with that part
pub split_list : (qs : List PartValue) (p : PartValue) (rest : List ℕ) → AllFit qs → Fits p → parts_bytes qs ≡ part_bytes p ++ rest
    → (ps : List PartValue) × (qs ≡ p ∷ ps) × AllFit ps × (rest ≡ parts_bytes ps)
split_list [] p rest all fit e = absurd cc
split_list (q ∷ qs) p rest all fit e =
    let one = one_part q p (parts_bytes qs) rest all.0 fit e in
    (qs, ap (λ (first : PartValue). first ∷ qs) one.0, all.1, sym one.1)

pub record GivesFirst (bytes : List ℕ) (p : PartValue) (rest : List ℕ) : Type 0 where
  pub spells : Spells rest
  pub are : parts_in bytes ≡ p ∷ parts_in rest

pub first_given : (bytes : List ℕ) (p : PartValue) (rest : List ℕ) → Spells bytes → BeginsWithPart bytes p rest → GivesFirst bytes p rest
first_given bytes p rest spells first =
    let s = split_list (parts_in bytes) p rest (fit_of bytes spells) first.fit (sym (spelled_of bytes spells) ∙ first.spelled) in
    let seen = seen_as rest s.0 s.2 s.3 in
    record { spells = seen.spells; are = s.1 ∙ ap (λ (ps : List PartValue). p ∷ ps) (sym seen.are) }

-- where no part is first, none remains
nothing_in : (bytes : List ℕ) (ps : List PartValue) → AllFit ps → bytes ≡ parts_bytes ps → NoPart bytes → ps ≡ []
nothing_in bytes [] all e none = refl
nothing_in bytes (p ∷ ps) all e none = absurd (none p (parts_bytes ps) (record { fit = all.0; spelled = e }))

pub none_remains : (bytes : List ℕ) → Spells bytes → NoPart bytes → parts_in bytes ≡ []
none_remains bytes spells none = nothing_in bytes (parts_in bytes) (fit_of bytes spells) (spelled_of bytes spells) none

-- no bytes spell no part, and what spells no part has no byte
pub empty_seen : (bytes : List ℕ) → Spells bytes → length bytes ≡ 0 → parts_in bytes ≡ []
unfolding parts_in parts_within
empty_seen bytes spells none = rw none refl

pub seen_empty : (bytes : List ℕ) → Spells bytes → parts_in bytes ≡ [] → length bytes ≡ 0
seen_empty bytes spells none = ap length (spelled_of bytes spells ∙ ap parts_bytes none)

-- ---- whether bytes are parts

pub are_parts_seen : (bytes : List ℕ) → AreParts bytes → Spells bytes
are_parts_seen bytes is = (seen_as bytes is.parts is.fit is.spelled).spells

pub are_parts_more : (bytes : List ℕ) (p : PartValue) (rest : List ℕ) → BeginsWithPart bytes p rest → AreParts rest → AreParts bytes
are_parts_more bytes p rest first is = record {
  parts = p ∷ is.parts;
  fit = (first.fit, is.fit);
  spelled = first.spelled ∙ ap (λ (bs : List ℕ). part_bytes p ++ bs) is.spelled;
}

pub are_parts_less : (bytes : List ℕ) (p : PartValue) (rest : List ℕ) → BeginsWithPart bytes p rest → AreParts bytes → AreParts rest
are_parts_less bytes p rest first is =
    let s = split_list is.parts p rest is.fit first.fit (sym is.spelled ∙ first.spelled) in
    record { parts = s.0; fit = s.2; spelled = s.3 }

pub are_parts_none : (bytes : List ℕ) → 0 < length bytes → NoPart bytes → AreParts bytes → ⊥
are_parts_none bytes long none is =
    let nothing : is.parts ≡ [] = nothing_in bytes is.parts is.fit is.spelled none in
    let empty : bytes ≡ [] = is.spelled ∙ ap parts_bytes nothing in
    omega (arith, ap length empty)

-- after some parts the bytes are parts exactly where what follows them is
pub are_parts_after : (ps : List PartValue) (bytes rest : List ℕ) → AllFit ps → bytes ≡ parts_bytes ps ++ rest → (AreParts bytes → AreParts rest) × (AreParts rest → AreParts bytes)
are_parts_after [] bytes rest fit e = (λ is. subst AreParts e is, λ is. subst AreParts (sym e) is)
are_parts_after (p ∷ ps) bytes rest fit e =
    let first : BeginsWithPart bytes p (parts_bytes ps ++ rest) =
    record { fit = fit.0; spelled = e ∙ append_assoc (part_bytes p) (parts_bytes ps) rest } in
    let later = are_parts_after ps (parts_bytes ps ++ rest) rest fit.1 refl in (
      λ is. later.0 (are_parts_less bytes p (parts_bytes ps ++ rest) first is),
      λ is. are_parts_more bytes p (parts_bytes ps ++ rest) first (later.1 is),
    )

-- where parts are followed by bytes that no part begins, those are the parts and the bytes
pub one_end : (ps qs : List PartValue) (x y : List ℕ) → AllFit ps → AllFit qs → NoPart x → NoPart y → parts_bytes ps ++ x ≡ parts_bytes qs ++ y → (ps ≡ qs) × (x ≡ y)
one_end [] [] x y fp fq nx ny e = (refl, e)
one_end [] (q ∷ qs) x y fp fq nx ny e =
    absurd (nx q (parts_bytes qs ++ y) (record { fit = fq.0; spelled = e ∙ append_assoc (part_bytes q) (parts_bytes qs) y }))
one_end (p ∷ ps) [] x y fp fq nx ny e =
    absurd (ny p (parts_bytes ps ++ x) (record { fit = fp.0; spelled = sym e ∙ append_assoc (part_bytes p) (parts_bytes ps) x }))
one_end (p ∷ ps) (q ∷ qs) x y fp fq nx ny e =
    let first = one_part p q (parts_bytes ps ++ x) (parts_bytes qs ++ y) fp.0 fq.0
    (sym (append_assoc (part_bytes p) (parts_bytes ps) x) ∙ e ∙ append_assoc (part_bytes q) (parts_bytes qs) y) in
    let later = one_end ps qs x y fp.1 fq.1 nx ny first.1 in
    (ap (λ (r : PartValue). r ∷ ps) first.0 ∙ ap (λ (rs : List PartValue). q ∷ rs) later.0, later.1)

-- what a call that appends a part, or changes nothing, leaves
pub record Added {E : Type 0} (r : Result (Unit {0}) E) (old new : List ℕ) (p : PartValue) : Type 0 where
  pub spells : Spells new
  pub are : OnOk r (parts_in new ≡ parts_in old ++ p ∷ [])

pub added : {E : Type 0} (r : Result (Unit {0}) E) (old new : List ℕ) (p : PartValue) → Spells old → Fits p → OnOk r (new ≡ old ++ part_bytes p) → OnErr r (new ≡ old) → Added r old new p
added (Ok x) old new p spells fit ok err = let seen = pushed old new p spells fit ok in record { spells = seen.spells; are = seen.are }
added (Err e) old new p spells fit ok err = record { spells = subst Spells (sym err) spells; are = tt }
