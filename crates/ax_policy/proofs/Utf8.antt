-- Names and fronts of paths are UTF-8 where the paths are.
use Rattle.std.proofs.Common.{◌≡◌, ℕ, ◌+◌, ◌-◌, ◌<◌, ◌≤◌, ◌==◌, ◌||◌, Bool, true, false, cond, List, [], ◌∷◌, ◌++◌, length, take, drop, get_or, Option, Some, None, refl, ap, subst, sym, ◌∙◌, arith, append_assoc, append-nil, length-append}
use Rattle.std.specs.Str.{IsUtf8}
use Rattle.std.proofs.Math.Seq.{take-append_seam, drop-append_seam}
use Rattle.std.proofs.lemmas.Bool.{eqb-true}
use Rattle.std.proofs.lemmas.List.{take-append-drop, drop_all}
use Rattle.std.proofs.lemmas.Str.{IsUtf8-append, IsUtf8-take, IsUtf8-drop, IsUtf8-encode, IsUtf8-nil, IsCharBoundary-before_ascii, IsCharBoundary-after_ascii, encode_ascii}
use lib.Utf8.{low_scalar}
use Rattle.ax_policy.specs.declared.quoted.QuotedByte.{QuotedByte}
use Rattle.ax_policy.specs.declared.quoted.QuotedByte.TheVariants.{Stands, Escapes, Closes, Wrong}
use Rattle.ax_policy.specs.Paths.{slash, quote, backslash, is_escaped, escaped, role_of, by_role, put, quoted, until_slash, from_slash, mark_text}

pub record Parts (front rest : List ℕ) : Type 0 where
  pub before : IsUtf8 front
  pub after : IsUtf8 rest

at_seam : (front : List ℕ) (byte : ℕ) (rest : List ℕ)
    → get_or (front ++ byte ∷ rest) (length front) 0 ≡ byte
at_seam [] byte rest = refl
at_seam (first ∷ front) byte rest = at_seam front byte rest

past_seam : (front : List ℕ) (byte : ℕ) (rest : List ℕ)
    → drop (length front + 1) (front ++ byte ∷ rest) ≡ rest
past_seam front byte rest =
    let n : length front + 1 ≡ length (front ++ byte ∷ []) = omega (
      arith,
      length-append front
          (byte ∷ []),
    ) in
    ap (λ k. drop k (front ++ byte ∷ rest)) n
    ∙ ap (drop (length (front ++ byte ∷ []))) (sym (append_assoc front (byte ∷ []) rest))
    ∙ drop-append_seam (front ++ byte ∷ []) rest

-- a byte of ASCII parts a text in two
pub ascii_parts : (front : List ℕ) (byte : ℕ) (rest : List ℕ) → byte < 128
    → IsUtf8 (front ++ byte ∷ rest) → Parts front rest
ascii_parts front byte rest h u =
    let bytes = front ++ byte ∷ rest in
    let long : length front < length bytes = omega (arith, length-append front (byte ∷ rest)) in
    let low : get_or bytes (length front) 0 < 128 = rw (at_seam front byte rest) h in
    record {
      before = subst (λ bs. IsUtf8 bs) (take-append_seam front (byte ∷ rest)) (IsUtf8-take bytes
          (length front) u (IsCharBoundary-before_ascii bytes (length front) long low));
      after = subst (λ bs. IsUtf8 bs) (past_seam front byte rest) (IsUtf8-drop bytes
          (length front + 1) u (IsCharBoundary-after_ascii bytes (length front) u long low));
    }

one_ascii : (byte : ℕ) → byte < 128 → IsUtf8 (byte ∷ [])
one_ascii byte h = subst (λ bs. IsUtf8 bs) (encode_ascii byte h) (IsUtf8-encode byte
    (low_scalar byte (omega arith)))

-- a byte moved from what follows to what is before
shifted : (front : List ℕ) (byte : ℕ) (rest : List ℕ) → IsUtf8 (front ++ byte ∷ rest)
    → IsUtf8 ((front ++ byte ∷ []) ++ rest)
shifted front byte rest u = subst (λ bs. IsUtf8 bs) (sym (append_assoc front (byte ∷ []) rest)) u

back : (front : List ℕ) (byte : ℕ) (rest : List ℕ) → IsUtf8 ((front ++ byte ∷ []) ++ rest)
    → IsUtf8 (front ++ byte ∷ rest)
back front byte rest u = subst (λ bs. IsUtf8 bs) (append_assoc front (byte ∷ []) rest) u

-- ---- names between quotes

escaped_is : (byte : ℕ) → is_escaped byte ≡ true → byte < 128
escaped_is byte h = by_tests (byte == quote) (byte == backslash) refl refl h
  where
    by_tests : (a b : Bool) → (byte == quote) ≡ a → (byte == backslash) ≡ b → (a || b) ≡ true
        → byte < 128
    by_tests true b i j h = let e : byte ≡ 34 = eqb-true byte quote i in omega arith
    by_tests false true i j h = let e : byte ≡ 92 = eqb-true byte backslash j in omega arith
    by_tests false false i j h = absurd (cc)

-- what a byte of each role is
abbrev pub RoleIs : QuotedByte → ℕ → Type 0
RoleIs Stands byte = 0 ≤ byte
RoleIs Escapes byte = byte < 128
RoleIs Closes byte = byte < 128
RoleIs Wrong byte = 0 ≤ byte

role_behind : (byte : ℕ) (b : Bool) → is_escaped byte ≡ b → RoleIs (cond b Stands Wrong) byte
role_behind byte true e = omega arith
role_behind byte false e = omega arith

role_alone : (byte : ℕ) (a b : Bool) → (byte == quote) ≡ a → (byte == backslash) ≡ b
    → RoleIs (cond a Closes (cond b Escapes Stands)) byte
role_alone byte true b i j = let e : byte ≡ 34 = eqb-true byte quote i in omega arith
role_alone byte false true i j = let e : byte ≡ 92 = eqb-true byte backslash j in omega arith
role_alone byte false false i j = omega arith

role_is : (escaping : Bool) (byte : ℕ) → RoleIs (role_of escaping byte) byte
role_is true byte = role_behind byte (is_escaped byte) refl
role_is false byte = role_alone byte (byte == quote) (byte == backslash) refl refl

-- what was found, and how it stands to the bytes before
abbrev pub Whole : List ℕ → Option (List ℕ × List ℕ) → Type 0
Whole front None = 0 ≤ 0
Whole front (Some found) = Parts (front ++ found.0) found.1

put_whole : (front : List ℕ) (byte : ℕ) (found : Option (List ℕ × List ℕ))
    → Whole (front ++ byte ∷ []) found → Whole front (put byte found)
put_whole front byte None w = omega arith
put_whole front byte (Some found) w = record {
  before = back front byte found.0 w.before;
  after = w.after;
}

by_roles : (front : List ℕ) (byte : ℕ) (rest : List ℕ) → IsUtf8 (front ++ byte ∷ rest)
    → (RoleIs Stands byte → Whole front (put byte (quoted false rest)))
    → (IsUtf8 (front ++ rest) → Whole front (quoted true rest))
    → (role : QuotedByte) → RoleIs role byte
    → Whole front (by_role role (put byte (quoted false rest)) (quoted true rest) (Some ([], rest)) None)
by_roles front byte rest u stands escapes Stands h = stands h
by_roles front byte rest u stands escapes Escapes h =
    let p : Parts front rest = ascii_parts front byte rest h u in
    escapes (IsUtf8-append front rest p.before p.after)
by_roles front byte rest u stands escapes Closes h =
    let p : Parts front rest = ascii_parts front byte rest h u in
    record { before = rw append-nil p.before; after = p.after }
by_roles front byte rest u stands escapes Wrong h = omega arith

pub quoted_whole : (front : List ℕ) (escaping : Bool) (bytes : List ℕ) → IsUtf8 (front ++ bytes)
    → Whole front (quoted escaping bytes)
quoted_whole front escaping [] u = omega arith
quoted_whole front escaping (byte ∷ rest) u =
    by_roles front byte rest u
    (λ _. put_whole front byte (quoted false rest)
    (quoted_whole (front ++ byte ∷ []) false rest (shifted front byte rest u)))
    (λ v. quoted_whole front true rest v)
    (role_of escaping byte) (role_is escaping byte)

pub quoted_found : (bytes name rest : List ℕ) → IsUtf8 bytes
    → Some (name, rest) ≡ quoted false bytes → Parts name rest
quoted_found bytes name rest u e =
    let w : Whole [] (quoted false bytes) = quoted_whole [] false bytes u in
    subst (λ o. Whole [] o) (sym e) w

escaped_step : (front : List ℕ) (byte : ℕ) (name more : List ℕ) → IsUtf8 (front ++ byte ∷ name)
    → (IsUtf8 name → IsUtf8 more) → (IsUtf8 ((front ++ byte ∷ []) ++ name) → IsUtf8 ((front ++ byte ∷ []) ++ more))
    → (b : Bool) → is_escaped byte ≡ b
    → IsUtf8 (front ++ (cond b (backslash ∷ byte ∷ []) (byte ∷ []) ++ more))
escaped_step front byte name more u alone behind true e =
    let low : byte < 128 = escaped_is byte e in
    let p : Parts front name = ascii_parts front byte name low u in
    IsUtf8-append front (backslash ∷ byte ∷ more) p.before
    (IsUtf8-append (backslash ∷ []) (byte ∷ more) (one_ascii backslash (omega arith))
    (IsUtf8-append (byte ∷ []) more (one_ascii byte low) (alone p.after)))
escaped_step front byte name more u alone behind false e =
    back front byte more (behind (shifted front byte name u))

pub escaped_utf8 : (front name : List ℕ) → IsUtf8 (front ++ name) → IsUtf8 (front ++ escaped name)
escaped_utf8 front [] u = u
escaped_utf8 front (byte ∷ name) u =
    escaped_step front byte name (escaped name) u (λ v. escaped_utf8 [] name v)
    (λ v. escaped_utf8 (front ++ byte ∷ []) name v) (is_escaped byte) refl

-- ---- up to a slash

parted_step : (front : List ℕ) (byte : ℕ) (rest : List ℕ) → IsUtf8 (front ++ byte ∷ rest)
    → Parts ((front ++ byte ∷ []) ++ until_slash rest) (from_slash rest)
    → (b : Bool) → (byte == slash) ≡ b
    → Parts (front ++ cond b [] (byte ∷ until_slash rest)) (cond b (byte ∷ rest) (from_slash rest))
parted_step front byte rest u later true e =
    let is : byte ≡ 47 = eqb-true byte slash e in
    let low : byte < 128 = omega arith in
    let p : Parts front rest = ascii_parts front byte rest low u in
    record {
      before = rw append-nil p.before;
      after = IsUtf8-append (byte ∷ []) rest (one_ascii byte low) p.after;
    }
parted_step front byte rest u later false e = record {
  before = back front byte (until_slash rest) later.before;
  after = later.after;
}

parted_parts : (front bytes : List ℕ) → IsUtf8 (front ++ bytes)
    → Parts (front ++ until_slash bytes) (from_slash bytes)
parted_parts front [] u = record { before = u; after = IsUtf8-nil }
parted_parts front (byte ∷ rest) u =
    parted_step front byte rest u
    (parted_parts (front ++ byte ∷ []) rest (shifted front byte rest u)) (byte == slash) refl

pub parted_utf8 : (bytes : List ℕ) → IsUtf8 bytes → Parts (until_slash bytes) (from_slash bytes)
parted_utf8 bytes u = parted_parts [] bytes u

-- ---- before a mark

pub before_ascii : (bytes : List ℕ) (n byte : ℕ) (rest : List ℕ) → IsUtf8 bytes
    → drop n bytes ≡ byte ∷ rest → byte < 128 → IsUtf8 (take n bytes)
before_ascii bytes n byte rest u e low =
    let whole : take n bytes ++ byte ∷ rest ≡ bytes =
    ap (λ l. take n bytes ++ l) (sym e) ∙ take-append-drop n bytes in
    (ascii_parts (take n bytes) byte rest low (subst (λ bs. IsUtf8 bs) (sym whole) u)).before

pub tail_utf8 : (byte : ℕ) (rest : List ℕ) → IsUtf8 (byte ∷ rest) → byte < 128 → IsUtf8 rest
tail_utf8 byte rest u low = (ascii_parts [] byte rest low u).after

pub before_marked : (bytes mark front : List ℕ) (all : Bool) → IsUtf8 bytes → mark ≡ mark_text all
    → drop (length bytes - length mark) bytes ≡ mark
    → front ≡ take (length bytes - length mark) bytes → IsUtf8 front
before_marked bytes mark front true u m e f =
    let last : drop (length bytes - length mark) bytes ≡ 47 ∷ 42 ∷ [] = e ∙ m in
    rw f (before_ascii bytes (length bytes - length mark) 47 (42 ∷ []) u last (omega arith))
before_marked bytes mark front false u m e f =
    let last : drop (length bytes - length mark) bytes ≡ 47 ∷ 63 ∷ [] = e ∙ m in
    rw f (before_ascii bytes (length bytes - length mark) 47 (63 ∷ []) u last (omega arith))

-- all bytes of a name are written
pub escaped_done : (written name : List ℕ) (i : ℕ) → length name ≤ i
    → written ++ escaped (drop i name) ≡ escaped name → IsUtf8 name → IsUtf8 written
escaped_done written name i h e u =
    let none : drop i name ≡ [] = drop_all i name h in
    let whole : written ≡ escaped name =
    sym (append-nil written) ∙ ap (λ l. written ++ escaped l) (sym none) ∙ e in
    subst (λ bs. IsUtf8 bs) (sym whole) (escaped_utf8 [] name u)
