-- What a string of a UTF-8 text stands for is UTF-8: a character stands there as itself or as an
-- escape of ASCII letters.
use Rattle.std.proofs.Common.{◌≡◌, ℕ, ◌+◌, ◌*◌, ◌<◌, ◌≤◌, List, [], ◌∷◌, ◌++◌, length, get_or, drop, Bool, true, false, cond, ◌&&◌, ◌||◌, ◌==◌, nat_lt, nat_le, Option, Some, None, option_and_then, IsUtf8, refl, sym, ap, ◌∙◌, subst, arith, append_assoc, append-nil, length-append, ltb-true}
use Rattle.std.proofs.lemmas.Bool.{and_parts, eqb-true, leb-true, ltb-false, le-leb, le-ltb, lt-ltb}
use Rattle.std.proofs.lemmas.Str.{IsUtf8-append, IsUtf8-take, IsUtf8-drop, IsUtf8-encode, IsCharBoundary-before_ascii, IsCharBoundary-after_ascii, encode_ascii}
use Rattle.std.proofs.Math.Seq.{take-append_seam, drop-append_seam, get_or-append_seam}
use Rattle.std.proofs.Math.Utf8.{scalar, low_scalar}
use Rattle.std.specs.Char.{digit_value, is_digit, encode_utf8}
use Rattle.std.specs.Option.{IfSome}
use Rattle.json.specs.Text.{code_unit, short_escape, is_high_surrogate, is_low_surrogate, surrogate_pair, Within, plain, after_backslash, after_u, after_high, prepend, content}

-- ---- the parts of a text round an ASCII byte

seam : (prefix rest : List ℕ) (x : ℕ) → x < 128
    → get_or (prefix ++ x ∷ rest) (length prefix) 0 < 128
seam prefix rest x small = rw (get_or-append_seam prefix x rest 0) small

inside : (prefix rest : List ℕ) (x : ℕ) → length prefix < length (prefix ++ x ∷ rest)
inside prefix rest x = omega (arith, length-append prefix (x ∷ rest))

pub prefix_utf8 : (prefix rest : List ℕ) (x : ℕ) → x < 128 → IsUtf8 (prefix ++ x ∷ rest)
    → IsUtf8 prefix
prefix_utf8 prefix rest x small utf8 =
    subst IsUtf8 (take-append_seam prefix (x ∷ rest))
    (IsUtf8-take (prefix ++ x ∷ rest) (length prefix) utf8
    (IsCharBoundary-before_ascii _ (length prefix) (inside prefix rest x)
    (seam prefix rest x small)))

pub rest_utf8 : (prefix rest : List ℕ) (x : ℕ) → x < 128 → IsUtf8 (prefix ++ x ∷ rest) → IsUtf8 rest
rest_utf8 prefix rest x small utf8 =
    let regrouped : (prefix ++ x ∷ []) ++ rest ≡ prefix ++ x ∷ rest =
    append_assoc prefix (x ∷ []) rest in
    let position : length (prefix ++ x ∷ []) ≡ length prefix + 1 = length-append prefix (x ∷ []) in
    subst IsUtf8
    (ap (λ n. drop n (prefix ++ x ∷ rest)) (sym position)
    ∙ ap (drop (length (prefix ++ x ∷ []))) (sym regrouped)
    ∙ drop-append_seam (prefix ++ x ∷ []) rest)
    (IsUtf8-drop (prefix ++ x ∷ rest) (length prefix + 1) utf8
    (IsCharBoundary-after_ascii _ (length prefix) utf8 (inside prefix rest x)
    (seam prefix rest x small)))

pub after_utf8 : (x : ℕ) (rest : List ℕ) → x < 128 → IsUtf8 (x ∷ rest) → IsUtf8 rest
after_utf8 x rest small utf8 = rest_utf8 [] rest x small utf8

pub one_utf8 : (x : ℕ) → x < 128 → IsUtf8 (x ∷ [])
one_utf8 x small =
    subst IsUtf8 (encode_ascii x small) (IsUtf8-encode x (low_scalar x (omega arith)))

-- ---- escapes

-- an escape's letter and the character that it stands for are ASCII
abbrev AreAscii : ℕ → Option ℕ → Type 0
AreAscii x o = IfSome o (λ c. (x < 128) × (c < 128))

where_equal : (x y : ℕ) (o rest : Option ℕ) → y < 128 → IfSome o (λ c. c < 128) → AreAscii x rest
    → AreAscii x (cond (x == y) o rest)
where_equal x y o rest small below h = by_test (x == y) refl o below
  where
    ascii : x ≡ y → (o : Option ℕ) → IfSome o (λ c. c < 128) → AreAscii x o
    ascii e None below = tt
    ascii e (Some c) below = (omega arith, below)

    by_test : (b : Bool) → (x == y) ≡ b → (o : Option ℕ) → IfSome o (λ c. c < 128)
        → AreAscii x (cond b o rest)
    by_test true e o below = ascii (eqb-true x y e) o below
    by_test false e o below = h

one_of_three : (x : ℕ) (a b c : Bool) → (x == 34) ≡ a → (x == 92) ≡ b → (x == 47) ≡ c
    → (rest : Option ℕ)
    → AreAscii x rest → AreAscii x (cond (a || b || c) (Some x) rest)
one_of_three x true b c e f g rest h =
    let is : x ≡ 34 = eqb-true x 34 e in (omega arith, omega arith)
one_of_three x false true c e f g rest h =
    let is : x ≡ 92 = eqb-true x 92 f in (omega arith, omega arith)
one_of_three x false false true e f g rest h =
    let is : x ≡ 47 = eqb-true x 47 g in (omega arith, omega arith)
one_of_three x false false false e f g rest h = h

short_ascii : (x : ℕ) → AreAscii x (short_escape x)
unfolding short_escape
short_ascii x =
    one_of_three x (x == 34) (x == 92) (x == 47) refl refl refl _
    (where_equal x 98 (Some 8) _ (omega arith) (omega arith)
    (where_equal x 102 (Some 12) _ (omega arith) (omega arith)
    (where_equal x 110 (Some 10) _ (omega arith) (omega arith)
    (where_equal x 114 (Some 13) _ (omega arith) (omega arith)
    (where_equal x 116 (Some 9) None (omega arith) (omega arith) tt)))))

-- ---- four hexadecimal digits

digit_ascii : (x : ℕ) → digit_value x < 16 → x < 128
digit_ascii x h = grind arith

pub record IsUnit (a b c d unit : ℕ) : Type 0 where
  pub digits : (a < 128) × (b < 128) × (c < 128) × (d < 128)
  pub small : unit < 65536

unit_ascii : (a b c d : ℕ) → IfSome (code_unit a b c d) (IsUnit a b c d)
unfolding code_unit
unit_ascii a b c d = by_test (is_digit a 16 && is_digit b 16 && is_digit c 16 && is_digit d 16) refl
  where
    by_test : (t : Bool) → (is_digit a 16 && is_digit b 16 && is_digit c 16 && is_digit d 16) ≡ t
        → IfSome
        (cond t
        (Some (digit_value a * 4096 + digit_value b * 256 + digit_value c * 16 + digit_value d))
        None) (IsUnit a b c d)
    by_test false e = tt
    by_test true e =
        let last = and_parts (is_digit a 16 && is_digit b 16 && is_digit c 16) (is_digit d 16) e in
        let third = and_parts (is_digit a 16 && is_digit b 16) (is_digit c 16) last.0 in
        let first = and_parts (is_digit a 16) (is_digit b 16) third.0 in
        let va : digit_value a < 16 = ltb-true (digit_value a) 16 first.0 in
        let vb : digit_value b < 16 = ltb-true (digit_value b) 16 first.1 in
        let vc : digit_value c < 16 = ltb-true (digit_value c) 16 third.1 in
        let vd : digit_value d < 16 = ltb-true (digit_value d) 16 last.1 in
        record {
          digits = (digit_ascii a va, digit_ascii b vb, digit_ascii c vc, digit_ascii d vd);
          small = omega arith;
        }

high_scalar : (c : ℕ) → 57344 ≤ c → c < 1114112 → scalar c ≡ true
high_scalar c low high =
    let past : 55296 ≤ c = omega arith in
    λ i. cond (le-ltb c 55296 past i) true (le-leb 57344 c low i && lt-ltb c 1114112 high i)

-- ---- the content of a string

-- what was read of the string, before what is to come
abbrev Ends : List ℕ → Option (List ℕ) → Type 0
Ends prefix o = IfSome o (λ s. IsUtf8 (prefix ++ s))

prepended : (prefix bytes : List ℕ) (o : Option (List ℕ)) → Ends (prefix ++ bytes) o
    → Ends prefix (prepend bytes o)
prepended prefix bytes None h = tt
prepended prefix bytes (Some s) h = subst IsUtf8 (append_assoc prefix bytes s) h

-- what a text has to be where its content is read on: behind an escape both parts are texts
abbrev Goes : Within → List ℕ → List ℕ → Type 0
Goes plain prefix xs = IsUtf8 (prefix ++ xs)
Goes after_backslash prefix xs = IsUtf8 prefix × IsUtf8 xs
Goes after_u prefix xs = IsUtf8 prefix × IsUtf8 xs
Goes (after_high high) prefix xs = IsUtf8 prefix × IsUtf8 xs × (55296 ≤ high) × (high < 56320)

plain_byte : (prefix xs : List ℕ) (x : ℕ) (a b c : Bool) → (x == 34) ≡ a → (x == 92) ≡ b
    → (x ≡ 34 → IsUtf8 (prefix ++ [])) → (x ≡ 92 → Ends prefix (content after_backslash xs))
    → Ends (prefix ++ x ∷ []) (content plain xs)
    → Ends prefix
    (cond a (Some [])
    (cond b (content after_backslash xs) (cond c None (prepend (x ∷ []) (content plain xs)))))
plain_byte prefix xs x true b c e f ends escapes more = ends (eqb-true x 34 e)
plain_byte prefix xs x false true c e f ends escapes more = escapes (eqb-true x 92 f)
plain_byte prefix xs x false false true e f ends escapes more = tt
plain_byte prefix xs x false false false e f ends escapes more =
    prepended prefix (x ∷ []) (content plain xs) more

escape_byte : (prefix xs : List ℕ) (x : ℕ) (a : Bool) (o : Option ℕ) → (x == 117) ≡ a → AreAscii x o
    → (x ≡ 117 → Ends prefix (content after_u xs))
    → ((c : ℕ) → x < 128 → c < 128 → Ends (prefix ++ c ∷ []) (content plain xs))
    → Ends prefix
    (cond a (content after_u xs) (option_and_then (λ c. prepend (c ∷ []) (content plain xs)) o))
escape_byte prefix xs x true o e ascii unicode short = unicode (eqb-true x 117 e)
escape_byte prefix xs x false None e ascii unicode short = tt
escape_byte prefix xs x false (Some c) e ascii unicode short =
    prepended prefix (c ∷ []) (content plain xs) (short c ascii.0 ascii.1)

-- a code unit that stands for itself
beyond : (from until unit : ℕ) → from ≤ unit → (nat_le from unit && nat_lt unit until) ≡ false
    → until ≤ unit
beyond from until unit h e =
    ltb-false unit until (sym (ap (λ b. b && nat_lt unit until) (le-leb from unit h)) ∙ e)

alone : (unit : ℕ) → unit < 65536 → is_high_surrogate unit ≡ false → is_low_surrogate unit ≡ false
    → scalar unit ≡ true
alone unit small no_high no_low = by_test (nat_lt unit 55296) refl
  where
    by_test : (t : Bool) → nat_lt unit 55296 ≡ t → scalar unit ≡ true
    by_test true e = low_scalar unit (ltb-true unit 55296 e)
    by_test false e =
        let from : 55296 ≤ unit = ltb-false unit 55296 e in
        let past_high : 56320 ≤ unit = beyond 55296 56320 unit from no_high in
        high_scalar unit (beyond 56320 57344 unit past_high no_low) (omega arith)

unicode_unit : (prefix xs : List ℕ) (a b c d : ℕ) (o : Option ℕ) → IfSome o (IsUnit a b c d)
    → ((u : ℕ) → IsUnit a b c d u → 55296 ≤ u → u < 56320 → Ends prefix (content (after_high u) xs))
    → ((u : ℕ) → IsUnit a b c d u → scalar u ≡ true
    → Ends (prefix ++ encode_utf8 u) (content plain xs))
    → Ends prefix
    (option_and_then
    (λ u. cond (is_high_surrogate u) (content (after_high u) xs)
    (cond (is_low_surrogate u) None (prepend (encode_utf8 u) (content plain xs)))) o)
unicode_unit prefix xs a b c d None unit high single = tt
unicode_unit prefix xs a b c d (Some u) unit high single =
    by_test (is_high_surrogate u) (is_low_surrogate u) refl refl
  where
    by_test : (h l : Bool) → is_high_surrogate u ≡ h → is_low_surrogate u ≡ l
        → Ends prefix
        (cond h (content (after_high u) xs)
        (cond l None (prepend (encode_utf8 u) (content plain xs))))
    by_test true l e f =
        let p = and_parts (nat_le 55296 u) (nat_lt u 56320) e in
        high u unit (leb-true 55296 u p.0) (ltb-true u 56320 p.1)
    by_test false true e f = tt
    by_test false false e f =
        prepended prefix (encode_utf8 u) (content plain xs) (single u unit (alone u unit.small e f))

pair_scalar : (h l : ℕ) → 55296 ≤ h → h < 56320 → 56320 ≤ l → l < 57344
    → scalar (surrogate_pair h l) ≡ true
pair_scalar h l a b c d = high_scalar (surrogate_pair h l) (omega arith) (omega arith)

low_unit : (prefix xs : List ℕ) (s u a b c d high : ℕ) (t : Bool) (o : Option ℕ)
    → ((s == 92) && (u == 117)) ≡ t
    → IfSome o (IsUnit a b c d) → 55296 ≤ high → high < 56320
    → ((p : ℕ) → (s < 128) × (u < 128) × (a < 128) × (b < 128) × (c < 128) × (d < 128)
    → scalar p ≡ true
    → Ends (prefix ++ encode_utf8 p) (content plain xs))
    → Ends prefix
    (cond t
    (option_and_then
    (λ l. cond (is_low_surrogate l)
    (prepend (encode_utf8 (surrogate_pair high l)) (content plain xs)) None) o) None)
low_unit prefix xs s u a b c d high false o e unit from below more = tt
low_unit prefix xs s u a b c d high true None e unit from below more = tt
low_unit prefix xs s u a b c d high true (Some l) e unit from below more =
    by_test (is_low_surrogate l) refl
  where
    by_test : (t : Bool) → is_low_surrogate l ≡ t
        → Ends prefix
        (cond t (prepend (encode_utf8 (surrogate_pair high l)) (content plain xs)) None)
    by_test false f = tt
    by_test true f =
        let marks = and_parts (s == 92) (u == 117) e in
        let is_s : s ≡ 92 = eqb-true s 92 marks.0 in
        let is_u : u ≡ 117 = eqb-true u 117 marks.1 in
        let p = and_parts (nat_le 56320 l) (nat_lt l 57344) f in
        let pair : scalar (surrogate_pair high l) ≡ true
        = pair_scalar high l from below (leb-true 56320 l p.0) (ltb-true l 57344 p.1) in
        let four = unit.digits in
        prepended prefix (encode_utf8 (surrogate_pair high l)) (content plain xs)
        (more (surrogate_pair high l) (
          omega arith,
          omega arith,
          four.0,
          four.1,
          four.2,
          four.3,
        ) pair)

after_four : (a b c d : ℕ) (xs : List ℕ) → (a < 128) × (b < 128) × (c < 128) × (d < 128)
    → IsUtf8 (a ∷ b ∷ c ∷ d ∷ xs) → IsUtf8 xs
after_four a b c d xs h utf8 =
    after_utf8 d xs h.3
    (after_utf8 c (d ∷ xs) h.2
    (after_utf8 b (c ∷ d ∷ xs) h.1 (after_utf8 a (b ∷ c ∷ d ∷ xs) h.0 utf8)))

encoded : (prefix xs : List ℕ) (c : ℕ) → scalar c ≡ true → IsUtf8 prefix → IsUtf8 xs
    → IsUtf8 ((prefix ++ encode_utf8 c) ++ xs)
encoded prefix xs c is f x =
    IsUtf8-append (prefix ++ encode_utf8 c) xs
    (IsUtf8-append prefix (encode_utf8 c) f (IsUtf8-encode c is)) x

pub content_utf8 : (w : Within) (xs prefix : List ℕ) → Goes w prefix xs → Ends prefix (content w xs)
unfolding content
content_utf8 plain [] prefix h = tt
content_utf8 plain (x ∷ xs) prefix h =
    plain_byte prefix xs x (x == 34) (x == 92) (nat_lt x 32) refl refl
    (λ e. subst IsUtf8 (sym (append-nil prefix)) (prefix_utf8 prefix xs x (omega arith) h))
    (λ e. content_utf8 after_backslash xs prefix (
      prefix_utf8 prefix xs x (omega arith) h,
      rest_utf8 prefix xs x (omega arith) h,
    ))
    (content_utf8 plain xs (prefix ++ x ∷ [])
    (subst IsUtf8 (sym (append_assoc prefix (x ∷ []) xs)) h))
content_utf8 after_backslash [] prefix h = tt
content_utf8 after_backslash (x ∷ xs) prefix h =
    escape_byte prefix xs x (x == 117) (short_escape x) refl (short_ascii x)
    (λ e. content_utf8 after_u xs prefix (h.0, after_utf8 x xs (omega arith) h.1))
    (λ c small below. content_utf8 plain xs (prefix ++ c ∷ [])
    (IsUtf8-append (prefix ++ c ∷ []) xs (IsUtf8-append prefix (c ∷ []) h.0 (one_utf8 c below))
    (after_utf8 x xs small h.1)))
content_utf8 after_u [] prefix h = tt
content_utf8 after_u (a ∷ []) prefix h = tt
content_utf8 after_u (a ∷ b ∷ []) prefix h = tt
content_utf8 after_u (a ∷ b ∷ c ∷ []) prefix h = tt
content_utf8 after_u (a ∷ b ∷ c ∷ d ∷ xs) prefix h =
    unicode_unit prefix xs a b c d (code_unit a b c d) (unit_ascii a b c d)
    (λ u unit from below. content_utf8 (after_high u) xs prefix (
      h.0,
      after_four a b c d xs unit.digits h.1,
      from,
      below,
    ))
    (λ u unit is. content_utf8 plain xs (prefix ++ encode_utf8 u)
    (encoded prefix xs u is h.0 (after_four a b c d xs unit.digits h.1)))
content_utf8 (after_high high) [] prefix h = tt
content_utf8 (after_high high) (s ∷ []) prefix h = tt
content_utf8 (after_high high) (s ∷ u ∷ []) prefix h = tt
content_utf8 (after_high high) (s ∷ u ∷ a ∷ []) prefix h = tt
content_utf8 (after_high high) (s ∷ u ∷ a ∷ b ∷ []) prefix h = tt
content_utf8 (after_high high) (s ∷ u ∷ a ∷ b ∷ c ∷ []) prefix h = tt
content_utf8 (after_high high) (s ∷ u ∷ a ∷ b ∷ c ∷ d ∷ xs) prefix h =
    low_unit prefix xs s u a b c d high ((s == 92) && (u == 117)) (code_unit a b c d) refl
    (unit_ascii a b c d) h.2 h.3
    (λ p small is. content_utf8 plain xs (prefix ++ encode_utf8 p)
    (encoded prefix xs p is h.0 (after_four a b c d xs (small.2, small.3, small.4, small.5)
    (after_utf8 u (a ∷ b ∷ c ∷ d ∷ xs) small.1
    (after_utf8 s (u ∷ a ∷ b ∷ c ∷ d ∷ xs) small.0 h.1)))))

-- the content of a string of a UTF-8 text
pub string_utf8 : (xs : List ℕ) → IsUtf8 xs → IfSome (content plain xs) IsUtf8
string_utf8 xs utf8 = content_utf8 plain xs [] utf8
