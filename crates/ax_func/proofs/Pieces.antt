-- A piece of a LIKE pattern without `%` and `_`: it stands where its characters stand, and its first
-- place leaves the most of the text.
use Rattle.std.proofs.Common.{◌≡◌, ℕ, ◌+◌, ◌-◌, ◌≤◌, List, [], ◌∷◌, ◌++◌, length, take, drop, Bool, true, false, cond, eqb, ◌&&◌, ◌||◌, ◌==◌, not, Some, None, Option, refl, sym, ap, ap₂, ◌∙◌, subst, suc, zero, arith, append-nil}
use Rattle.std.proofs.lemmas.Bool.{and_parts, eqb-true, eq-eqb, false≢true}
use Rattle.std.proofs.lemmas.List.{length-drop, drop_at, take-append-drop}
use Rattle.std.specs.Option.{option_map}
use Rattle.std.specs.Str.{chars, IsUtf8, encode_utf8_all, bytes_eq}
use Rattle.std.proofs.lemmas.Str.{chars_from_encodes, encodes-chars, chars-append, chars_past_char, IsUtf8-drop, IsUtf8-take, IsUtf8-append, IsUtf8-encode, IsCharBoundary-from_drop}
use Rattle.std.specs.Char.{encode_utf8, len_utf8}
use Rattle.std.specs.Str.Pattern.{HasCharAt}
use Rattle.std.proofs.lemmas.Slice.Eq.{bytes_eq-Decides}
use Rattle.ax_mean.specs.Like.{is_end, first_and_rest, some_rest, fits, matches}
use Rattle.ax_mean.specs.TextFunctions.{begins_with, place_in}
use Rattle.ax_func.specs.Pieces.{is_plain, all_plain}
use Rattle.ax_func.proofs.LikeLemmas.{some_rest-here, some_rest-nested, some_rest-next, or_right}

-- two truth values of which each follows from the other
same_truth : (a b : Bool) → (a ≡ true → b ≡ true) → (b ≡ true → a ≡ true) → a ≡ b
same_truth true true to back = refl
same_truth true false to back = sym (to refl)
same_truth false true to back = back refl
same_truth false false to back = refl

by_truth : {A : Type 0} (b : Bool) → (b ≡ true → A) → (b ≡ false → A) → A
by_truth {A} b if_so if_not = by b refl
  where
    by : (t : Bool) → b ≡ t → A
    by true e = if_so e
    by false e = if_not e

not_true : (b : Bool) → not b ≡ true → b ≡ false
not_true true e = absurd (false≢true e)
not_true false e = refl

-- a plain character is neither `%` nor `_`
no_percent : (d : ℕ) → is_plain d ≡ true → (d == 37) ≡ false
no_percent d e = not_true (d == 37) (and_parts (not (d == 37)) (not (d == 95)) e).0

no_blank : (d : ℕ) → is_plain d ≡ true → (d == 95) ≡ false
no_blank d e = not_true (d == 95) (and_parts (not (d == 37)) (not (d == 95)) e).1

plain_parts : (d : ℕ) (ds : List ℕ) → all_plain (d ∷ ds) ≡ true
    → (is_plain d ≡ true) × (all_plain ds ≡ true)
plain_parts d ds e = and_parts (is_plain d) (all_plain ds) e

at_plain : (d : ℕ) (ps : List ℕ) → is_plain d ≡ true
    → matches (d ∷ ps) ≡ first_and_rest (fits d) (matches ps)
at_plain d ps e =
    ap (λ b. cond b (some_rest (matches ps)) (first_and_rest (fits d) (matches ps))) (no_percent d e)

and_assoc : (a b c : Bool) → (a && (b && c)) ≡ (a && b && c)
and_assoc true b c = refl
and_assoc false b c = refl

-- what begins with plain characters matches where the text begins with them
pub matches-plain : (ds ps cs : List ℕ) → all_plain ds ≡ true
    → matches (ds ++ ps) cs ≡ (begins_with cs ds && matches ps (drop (length ds) cs))
matches-plain [] ps cs e = refl
matches-plain (d ∷ ds) ps [] e =
    ap (λ m. m []) (at_plain d (ds ++ ps) (plain_parts d ds e).0)
matches-plain (d ∷ ds) ps (c ∷ cs) e =
    let both = plain_parts d ds e in
    ap (λ m. m (c ∷ cs)) (at_plain d (ds ++ ps) both.0)
    ∙ ap₂ (λ a b. (a || eqb d c) && b) (no_blank d both.0) (matches-plain ds ps cs both.1)
    ∙ and_assoc (eqb d c) (begins_with cs ds) (matches ps (drop (length ds) cs))

-- what a piece before a `%` leaves decides, if not at its first place then never
later_place : (ds ps cs : List ℕ) → all_plain ds ≡ true
    → some_rest (matches (ds ++ 37 ∷ ps)) cs ≡ true
    → some_rest (matches ps) (drop (length ds) cs) ≡ true
later_place [] ps cs e h = some_rest-nested (matches ps) cs h
later_place (d ∷ ds) ps [] e h =
    absurd
    (false≢true
    (sym (ap (λ m. m []) (at_plain d (ds ++ 37 ∷ ps) (plain_parts d ds e).0)) ∙ h))
later_place (d ∷ ds) ps (c ∷ cs) e h =
    let both = plain_parts d ds e in
    later_place ds ps cs both.1
    (some_rest-next (fits d) (matches (ds ++ 37 ∷ ps)) c cs
    (sym (ap (λ m. some_rest m (c ∷ cs)) (at_plain d (ds ++ 37 ∷ ps) both.0)) ∙ h))

begins-front : (ds back : List ℕ) → begins_with (ds ++ back) ds ≡ true
begins-front [] back = refl
begins-front (d ∷ ds) back = ap₂ (λ a b. a && b) (eq-eqb d d refl) (begins-front ds back)

drop-front : (ds back : List ℕ) → drop (length ds) (ds ++ back) ≡ back
drop-front ds back = drop_at ds back (length ds) refl

module _ (ds ps : List ℕ) (plain : all_plain ds ≡ true) where
  abbrev whole : List ℕ → Bool
  whole cs = some_rest (matches (ds ++ 37 ∷ ps)) cs

  stands_here : (back : List ℕ) → whole (ds ++ back) ≡ some_rest (matches ps) back
  stands_here back =
      same_truth (whole (ds ++ back)) (some_rest (matches ps) back)
      (λ h. ap (some_rest (matches ps)) (sym (drop-front ds back))
      ∙ later_place ds ps (ds ++ back) plain h)
      (λ h. some_rest-here (matches (ds ++ 37 ∷ ps)) (ds ++ back)
      (matches-plain ds (37 ∷ ps) (ds ++ back) plain
      ∙ ap₂ (λ a b. a && some_rest (matches ps) b) (begins-front ds back) (drop-front ds back) ∙ h))

  not_here : (cs : List ℕ) → begins_with cs ds ≡ false → matches (ds ++ 37 ∷ ps) cs ≡ false
  not_here cs e =
      matches-plain ds (37 ∷ ps) cs plain
      ∙ ap (λ b. b && matches (37 ∷ ps) (drop (length ds) cs)) e

  nowhere : (cs : List ℕ) → place_in ds cs ≡ None → whole cs ≡ false
  nowhere [] e =
      by_truth (begins_with [] ds)
      (λ h. absurd (some_none (sym (ap (λ b. cond b (Some 0) None) h) ∙ e)))
      (not_here [])
    where
      some_none : {n : ℕ} → Some n ≡ None → ⊥
      some_none e = absurd (cc)
  nowhere (c ∷ cs) e =
      by_truth (begins_with (c ∷ cs) ds)
      (λ h. absurd
      (some_none
      (sym (ap (λ b. cond b (Some 0) (option_map (λ n. n + 1) (place_in ds cs))) h) ∙ e)))
      (λ h. ap₂ (λ a b. a || b) (not_here (c ∷ cs) h)
      (nowhere cs
      (later_none (place_in ds cs)
      (sym (ap (λ b. cond b (Some 0) (option_map (λ n. n + 1) (place_in ds cs))) h) ∙ e))))
    where
      some_none : {n : ℕ} → Some n ≡ None → ⊥
      some_none e = absurd (cc)

      later_none : (o : Option ℕ) → option_map (λ n. n + 1) o ≡ None → o ≡ None
      later_none None e = refl
      later_none (Some n) e = absurd (cc)

  somewhere : (front back : List ℕ)
      → place_in ds (front ++ (ds ++ back)) ≡ Some (length front)
      → whole (front ++ (ds ++ back)) ≡ some_rest (matches ps) back
  somewhere [] back e = stands_here back
  somewhere (c ∷ front) back e =
      let cs = front ++ (ds ++ back) in
      by_truth (begins_with (c ∷ cs) ds)
      (λ h. absurd
      (not_first
      (sym (ap (λ b. cond b (Some 0) (option_map (λ n. n + 1) (place_in ds cs))) h) ∙ e)))
      (λ h. ap (λ b. b || whole cs) (not_here (c ∷ cs) h)
      ∙ somewhere front back
      (one_less (place_in ds cs)
      (sym (ap (λ b. cond b (Some 0) (option_map (λ n. n + 1) (place_in ds cs))) h) ∙ e)))
    where
      some_value : {m n : ℕ} → Some m ≡ Some n → m ≡ n
      some_value {m} {n} e = ap (λ o. value_or m o) e
        where
          value_or : ℕ → Option ℕ → ℕ
          value_or k (Some n) = n
          value_or k None = k

      not_first : Some 0 ≡ Some (length (c ∷ front)) → ⊥
      not_first e = absurd (omega (arith, some_value e))

      one_less : (o : Option ℕ) → option_map (λ n. n + 1) o ≡ Some (length (c ∷ front))
          → o ≡ Some (length front)
      one_less None e = absurd (cc)
      one_less (Some n) e =
          let k : n ≡ length front = omega (arith, some_value e) in ap Some k

-- the last piece stands at the end, where what is left of the text is as long as the piece
matches_some : (k : ℕ) (ds cs : List ℕ) → matches ds (drop k cs) ≡ true
    → some_rest (matches ds) cs ≡ true
matches_some zero ds [] e = e
matches_some (suc k) ds [] e = e
matches_some zero ds (c ∷ cs) e = some_rest-here (matches ds) (c ∷ cs) e
matches_some (suc k) ds (c ∷ cs) e = or_right (matches ds (c ∷ cs)) (matches_some k ds cs e)

all_of_it : (ds : List ℕ) → all_plain ds ≡ true → matches ds ds ≡ true
all_of_it ds e =
    ap₂ (λ a b. matches a b) (sym (append-nil ds)) (sym (append-nil ds))
    ∙ matches-plain ds [] (ds ++ []) e
    ∙ ap₂ (λ a b. a && is_end b) (begins-front ds []) (drop-front ds [])

only_itself : (ds cs : List ℕ) → all_plain ds ≡ true → matches ds cs ≡ true → cs ≡ ds
only_itself [] [] e h = refl
only_itself [] (c ∷ cs) e h = absurd (false≢true h)
only_itself (d ∷ ds) [] e h =
    absurd (false≢true (sym (ap (λ m. m []) (at_plain d ds (plain_parts d ds e).0)) ∙ h))
only_itself (d ∷ ds) (c ∷ cs) e h =
    let both = plain_parts d ds e in
    let fit = and_parts (eqb d c) (matches ds cs)
    (sym
    (ap (λ m. m (c ∷ cs)) (at_plain d ds both.0)
    ∙ ap (λ a. (a || eqb d c) && matches ds cs) (no_blank d both.0)) ∙ h) in
    ap₂ (λ x xs. x ∷ xs) (sym (eqb-true d c fit.0)) (only_itself ds cs both.1 fit.1)

at_the_end : (ds cs : List ℕ) → all_plain ds ≡ true → some_rest (matches ds) cs ≡ true
    → drop (length cs - length ds) cs ≡ ds
at_the_end ds [] e h =
    let none : List ℕ = [] in
    let k : length none - length ds ≡ 0 = omega arith in
    ap (λ n. drop n none) k ∙ only_itself ds [] e h
at_the_end ds (c ∷ cs) e h =
    by_truth (matches ds (c ∷ cs))
    (λ here. let whole = only_itself ds (c ∷ cs) e here in
    ap (λ n. drop n (c ∷ cs)) (let k : length (c ∷ cs) - length ds ≡ 0 = omega (arith, ap length whole) in k)
    ∙ whole)
    (λ not_here. later (at_the_end ds cs e (sym (ap (λ b. b || some_rest (matches ds) cs) not_here) ∙ h)))
  where
    later : drop (length cs - length ds) cs ≡ ds → drop (length (c ∷ cs) - length ds) (c ∷ cs) ≡ ds
    later is =
        ap (λ n. drop n (c ∷ cs))
        (let k : length (c ∷ cs) - length ds ≡ suc (length cs - length ds) =
        omega (arith, ap length is, length-drop (length cs - length ds) cs) in k)
        ∙ is

pub found_first : (pattern text ds ps front back : List ℕ) → all_plain ds ≡ true
    → pattern ≡ ds ++ 37 ∷ ps → place_in ds text ≡ Some (length front)
    → text ≡ front ++ (ds ++ back)
    → some_rest (matches pattern) text ≡ some_rest (matches ps) back
found_first pattern text ds ps front back plain p at t =
    ap₂ (λ a b. some_rest (matches a) b) p t
    ∙ somewhere ds ps plain front back (ap (place_in ds) (sym t) ∙ at)

pub found_nowhere : (pattern text ds ps : List ℕ) → all_plain ds ≡ true
    → pattern ≡ ds ++ 37 ∷ ps → place_in ds text ≡ None
    → some_rest (matches pattern) text ≡ false
found_nowhere pattern text ds ps plain p at =
    ap (λ a. some_rest (matches a) text) p ∙ nowhere ds ps plain text at

pub ends_there : (text piece last : List ℕ) → IsUtf8 piece → all_plain (chars piece) ≡ true
    → last ≡ encode_utf8_all (drop (length (chars text) - length (chars piece)) (chars text))
    → bytes_eq last piece ≡ some_rest (matches (chars piece)) (chars text)
ends_there text piece last u plain e =
    let cs = chars text in
    let ds = chars piece in
    let behind = drop (length cs - length ds) cs in
    same_truth (bytes_eq last piece) (some_rest (matches ds) cs)
    (λ h. let is : behind ≡ ds =
    chars_from_encodes behind piece u (sym e ∙ (bytes_eq-Decides last piece).0 h) in
    matches_some (length cs - length ds) ds cs (ap (matches ds) is ∙ all_of_it ds plain))
    (λ h. (bytes_eq-Decides last piece).1
    (e ∙ ap encode_utf8_all (at_the_end ds cs plain h) ∙ encodes-chars piece u))

-- what is before a `%` and behind it
module _ (text : List ℕ) (u : IsUtf8 text) (i j : ℕ) (has : HasCharAt 37 text i j) where
  rest_utf8 : IsUtf8 (drop j text)
  rest_utf8 =
      subst (λ k. IsUtf8 (drop k text)) (sym has.ends)
      (IsUtf8-drop text (i + len_utf8 37) u has.after)

  sign_utf8 : IsUtf8 (drop i text)
  sign_utf8 =
      subst IsUtf8 (sym has.split)
      (IsUtf8-append (encode_utf8 37) (drop j text) (IsUtf8-encode 37 refl) rest_utf8)

  pub at_percent : i ≤ length text
      → chars text ≡ chars (take i text) ++ 37 ∷ chars (drop j text)
  at_percent h =
      let front = IsUtf8-take text i u (IsCharBoundary-from_drop text i h sign_utf8) in
      ap chars (sym (take-append-drop i text))
      ∙ chars-append (take i text) (drop i text) front
      ∙ ap (λ l. chars (take i text) ++ l)
      (chars_past_char (drop i text) (drop j text) 37 sign_utf8 has.split)
