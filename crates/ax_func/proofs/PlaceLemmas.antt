-- Where a text stands first in another: by the bytes, as std finds it, and by the characters.
use Rattle.std.proofs.Common.{◌≡◌, ℕ, ◌+◌, ◌<◌, ◌≤◌, List, [], ◌∷◌, ◌++◌, length, take, drop, Bool, true, false, cond, eqb, ◌&&◌, Some, None, refl, sym, ap, ap₂, ◌∙◌, subst, arith}
use Rattle.std.proofs.lemmas.Str.{encodes-append, encodes-chars, chars-append, IsUtf8-take, IsUtf8-drop, IsUtf8-append, IsCharBoundary-from_drop}
use Rattle.std.proofs.lemmas.List.{length-append, drop_at, drop-drop, take-append-drop, length-take}
use Rattle.std.proofs.lemmas.Bool.{and_parts, eqb-true, eq-eqb, false≢true}
use Rattle.std.specs.Option.{option_map}
use Rattle.std.specs.Str.{chars, IsUtf8, encode_utf8_all}
use Rattle.std.specs.Str.Pattern.{FindsText, LacksTextAt}
use Rattle.std.specs.Char.{encode_utf8}
use Rattle.ax_mean.specs.TextFunctions.{begins_with, place_in, place_of}
use Rattle.ax_func.proofs.Characters.{length-encode_pos}

-- a list that begins with another goes on after it
begins : (xs part : List ℕ) → begins_with xs part ≡ true → xs ≡ part ++ drop (length part) xs
begins xs [] h = refl
begins [] (p ∷ ps) h = absurd (false≢true h)
begins (x ∷ xs) (p ∷ ps) h =
    let both = and_parts (eqb p x) (begins_with xs ps) h in
    ap₂ (λ y ys. y ∷ ys) (sym (eqb-true p x both.0)) (begins xs ps both.1)

begins-append : (part rest : List ℕ) → begins_with (part ++ rest) part ≡ true
begins-append [] rest = refl
begins-append (p ∷ ps) rest = ap₂ (λ a b. a && b) (eq-eqb p p refl) (begins-append ps rest)

-- where the bytes lack the other text at their start, the characters do not begin with it
lacks_here : (cs ds : List ℕ) → LacksTextAt (encode_utf8_all ds) (encode_utf8_all cs) 0
    → begins_with cs ds ≡ false
lacks_here cs ds lacks = by_case (begins_with cs ds) refl
  where
    by_case : (b : Bool) → b ≡ begins_with cs ds → begins_with cs ds ≡ false
    by_case true e =
        absurd
        (lacks (encode_utf8_all (drop (length ds) cs))
        (ap encode_utf8_all (begins cs ds (sym e)) ∙ encodes-append ds (drop (length ds) cs)))
    by_case false e = sym e

-- what is lacked behind the first character is lacked in the rest
lacks_later : (c : ℕ) (cs part : List ℕ) (i : ℕ)
    → LacksTextAt part (encode_utf8_all (c ∷ cs)) (length (encode_utf8 c) + i)
    → LacksTextAt part (encode_utf8_all cs) i
lacks_later c cs part i lacks rest e =
    lacks rest (drop_behind (encode_utf8 c) (encode_utf8_all cs) i ∙ e)
  where
    drop_behind : (xs ys : List ℕ) (n : ℕ) → drop (length xs + n) (xs ++ ys) ≡ drop n ys
    drop_behind xs ys n = sym (drop-drop n (length xs) (xs ++ ys))
        ∙ ap (drop n) (drop_at xs ys (length xs) refl)

place_in-none : (cs ds : List ℕ)
    → ((i : ℕ) → i ≤ length (encode_utf8_all cs)
    → LacksTextAt (encode_utf8_all ds) (encode_utf8_all cs) i) → place_in ds cs ≡ None
place_in-none [] ds lacks =
    ap (λ b. cond b (Some 0) None) (lacks_here [] ds (lacks 0 (omega arith)))
place_in-none (c ∷ cs) ds lacks =
    ap₂ (λ b p. cond b (Some 0) (option_map (λ n. n + 1) p))
    (lacks_here (c ∷ cs) ds (lacks 0 (omega arith)))
    (place_in-none cs ds
    (λ i l. lacks_later c cs (encode_utf8_all ds) i
    (lacks (length (encode_utf8 c) + i)
    (omega (arith, l, length-append (encode_utf8 c) (encode_utf8_all cs))))))

place_in-some : (front ds back : List ℕ)
    → ((i : ℕ) → i < length (encode_utf8_all front)
    → LacksTextAt (encode_utf8_all ds) (encode_utf8_all (front ++ (ds ++ back))) i)
    → place_in ds (front ++ (ds ++ back)) ≡ Some (length front)
place_in-some [] ds back lacks = here (ds ++ back) (begins-append ds back)
  where
    here : (cs : List ℕ) → begins_with cs ds ≡ true → place_in ds cs ≡ Some 0
    here [] e = ap (λ b. cond b (Some 0) None) e
    here (c ∷ cs) e = ap (λ b. cond b (Some 0) (option_map (λ n. n + 1) (place_in ds cs))) e
place_in-some (c ∷ front) ds back lacks =
    let cs = front ++ (ds ++ back) in
    ap₂ (λ b p. cond b (Some 0) (option_map (λ n. n + 1) p))
    (lacks_here (c ∷ cs) ds
    (lacks 0
    (omega (
      arith,
      length-append (encode_utf8 c) (encode_utf8_all front),
      length-encode_pos c,
    ))))
    (place_in-some front ds back
    (λ i l. lacks_later c cs (encode_utf8_all ds) i
    (lacks (length (encode_utf8 c) + i)
    (omega (arith, l, length-append (encode_utf8 c) (encode_utf8_all front))))))
    ∙ ap Some (omega arith)

module _ (text part : List ℕ) (u : IsUtf8 text) (v : IsUtf8 part) where
  pub place_of-none : FindsText part text None → place_of text part ≡ None
  place_of-none lacks = place_in-none (chars text) (chars part) (λ i l rest e.
      lacks i (omega (arith, l, ap length (encodes-chars text u))) rest
      (ap (drop i) (sym (encodes-chars text u)) ∙ e ∙ ap (λ p. p ++ rest) (encodes-chars part v)))

  -- the places at which the part begins and ends, where it is found
  module _ (i j : ℕ) (finds : FindsText part text (Some (i, j))) where
    fits : j ≤ length text
    fits = subst (λ k. k ≤ length text) (sym finds.1.ends) finds.1.after.0

    behind : IsUtf8 (drop j text)
    behind =
        subst (λ k. IsUtf8 (drop k text)) (sym finds.1.ends)
        (IsUtf8-drop text (i + length part) u finds.1.after)

    from : IsUtf8 (drop i text)
    from = subst IsUtf8 (sym finds.1.split) (IsUtf8-append part (drop j text) v behind)

    before : IsUtf8 (take i text)
    before =
        IsUtf8-take text i u
        (IsCharBoundary-from_drop text i (omega (arith, fits, finds.1.ends)) from)

    -- the characters before the part, those of the part and those behind it
    pub parts_of-some :
        chars text ≡ chars (take i text) ++ (chars part ++ chars (drop j text))
    parts_of-some =
        let front = take i text in
        let back = drop j text in
        let whole : front ++ (part ++ back) ≡ text = ap (λ l. front ++ l) (sym finds.1.split)
        ∙ take-append-drop i text in
        ap chars (sym whole) ∙ chars-append front (part ++ back) before
        ∙ ap (λ l. chars front ++ l) (chars-append part back v)

    pub place_of-some : place_of text part ≡ Some (length (chars (take i text)))
    place_of-some =
        let front = take i text in
        let back = drop j text in
        let whole : front ++ (part ++ back) ≡ text = ap (λ l. front ++ l) (sym finds.1.split)
        ∙ take-append-drop i text in
        let spelt : chars text ≡ chars front ++ (chars part ++ chars back) =
        ap chars (sym whole) ∙ chars-append front (part ++ back) before
        ∙ ap (λ l. chars front ++ l) (chars-append part back v) in
        let again : text ≡ encode_utf8_all (chars front ++ (chars part ++ chars back)) =
        sym (encodes-chars text u) ∙ ap encode_utf8_all spelt in
        let size : length (encode_utf8_all (chars front)) ≤ i =
        omega (arith, ap length (encodes-chars front before), length-take i text) in
        ap (place_in (chars part)) spelt
        ∙ place_in-some (chars front) (chars part) (chars back) (λ k l rest e.
        finds.0 k (omega (arith, l, size)) rest
        (ap (drop k) again ∙ e ∙ ap (λ p. p ++ rest) (encodes-chars part v)))
