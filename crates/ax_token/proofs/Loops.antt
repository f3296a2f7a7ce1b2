-- Elements read one after another, as many as there are turns.
use Rattle.std.proofs.Common.{◌≡◌, ℕ, suc, ◌+◌, ◌-◌, ◌<◌, ◌≤◌, List, [], ◌∷◌, ◌++◌, Option, Some, None, refl, sym, ap, ◌∙◌, arith}
use Rattle.std.specs.Option.{option_map, option_and_then}
use Rattle.std.proofs.lemmas.List.{append_assoc, append-nil}
use Rattle.ax_token.specs.Reading.{First, many, onto}

onto_nothing : {X : Type 0} (o : Option (List X × List ℕ)) → onto [] o ≡ o
onto_nothing None = refl
onto_nothing (Some p) = refl

onto_onto : {X : Type 0} (xs : List X) (x : X) (o : Option (List X × List ℕ))
    → onto xs (option_map (λ r. (x ∷ r.0, r.1)) o) ≡ onto (xs ++ x ∷ []) o
onto_onto xs x None = refl
onto_onto xs x (Some p) = ap (λ ys. Some (ys, p.1)) (sym (append_assoc xs (x ∷ []) p.0))

module _ {X : Type 0} (first : First X) where
  -- so many more behind one that was read
  abbrev later : ℕ → Option (X × List ℕ) → Option (List X × List ℕ)
  later m = option_and_then (λ (y : X × List ℕ). option_map (λ (r : List X × List ℕ). (y.0 ∷ r.0, r.1)) (many first m y.1))

  pub begun : (n m : ℕ) (bytes rest : List ℕ) (xs : List X) → m ≡ n → rest ≡ bytes → xs ≡ []
      → onto xs (many first m rest) ≡ many first n bytes
  begun n m bytes rest xs e f none =
      (λ i. onto (none i) (many first (e i) (f i))) ∙ onto_nothing (many first n bytes)

  one_more : (m : ℕ) (rest : List ℕ) (x : X) (after : List ℕ) (xs : List X) → first rest ≡ Some (x, after)
      → onto xs (many first (suc m) rest) ≡ onto (xs ++ x ∷ []) (many first m after)
  one_more m rest x after xs e =
      ap (λ (o : Option (X × List ℕ)). onto xs (later m o)) e
      ∙ onto_onto xs x (many first m after)

  pub goes_on : (n turn : ℕ) (rest : List ℕ) (x : X) (after : List ℕ) (xs ys : List X) (whole : Option (List X × List ℕ))
      → turn < n → Some (x, after) ≡ first rest → ys ≡ xs ++ x ∷ []
      → onto xs (many first (n - turn) rest) ≡ whole
      → onto ys (many first (n - (turn + 1)) after) ≡ whole
  goes_on n turn rest x after xs ys whole low e pushed known =
      let left : n - turn ≡ suc (n - (turn + 1)) = omega arith in
      ap (λ (zs : List X). onto zs (many first (n - (turn + 1)) after)) pushed
      ∙ sym (one_more (n - (turn + 1)) rest x after xs (sym e))
      ∙ sym (ap (λ (m : ℕ). onto xs (many first m rest)) left) ∙ known

  pub breaks_off : (n turn : ℕ) (rest : List ℕ) (xs : List X) (whole : Option (List X × List ℕ))
      → turn < n → None ≡ first rest → onto xs (many first (n - turn) rest) ≡ whole → None ≡ whole
  breaks_off n turn rest xs whole low e known =
      let left : n - turn ≡ suc (n - (turn + 1)) = omega arith in
      ap (λ (o : Option (X × List ℕ)). onto xs (later (n - (turn + 1)) o)) e
      ∙ sym (ap (λ (m : ℕ). onto xs (many first m rest)) left) ∙ known

  pub all_read : (n turn : ℕ) (rest : List ℕ) (xs : List X) (whole : Option (List X × List ℕ))
      → n ≤ turn → onto xs (many first (n - turn) rest) ≡ whole → Some (xs, rest) ≡ whole
  all_read n turn rest xs whole high known =
      let none : n - turn ≡ 0 = omega arith in
      ap (λ (ys : List X). Some (ys, rest)) (sym (append-nil xs))
      ∙ sym (ap (λ (m : ℕ). onto xs (many first m rest)) none) ∙ known
