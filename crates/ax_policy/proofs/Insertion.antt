-- Elements put one by one among others, in the order of a text of each: the list that is made rises
-- strictly, and a list that does so is made again from its own elements.
use Rattle.std.proofs.Common.{◌≡◌, ℕ, List, [], ◌∷◌, Ordering, Less, Equal, Greater, refl, sym, ap, ◌∙◌, subst}
use Rattle.std.specs.Cmp.Lexicographic.{slice_cmp}
use Rattle.std.specs.List.{fold, AllByRecursion}
use Rattle.std.specs.Ordering.{nat_cmp, ordering_reverse}
use Rattle.std.proofs.lemmas.Cmp.{nat_list_cmp_total}

abbrev pub cmp : List ℕ → List ℕ → Ordering
cmp = slice_cmp nat_cmp

-- an element in place of another of the same text
pub record IsPut (X : Type 0) (key : X → List ℕ) (list : List X) (first : X) (rest : List X) : Type 0 where
  pub one : X
  pub is : list ≡ one ∷ rest
  pub same : key one ≡ key first

-- a function that puts elements among others, by their texts
pub record Puts (X : Type 0) (key : X → List ℕ) (put : List X → X → List X) : Type 0 where
  pub alone : (x : X) → put [] x ≡ x ∷ []
  pub before : (first : X) (rest : List X) (x : X) → cmp (key x) (key first) ≡ Less
      → put (first ∷ rest) x ≡ x ∷ first ∷ rest
  pub equal : (first : X) (rest : List X) (x : X) → cmp (key x) (key first) ≡ Equal
      → IsPut X key (put (first ∷ rest) x) first rest
  pub behind : (first : X) (rest : List X) (x : X) → cmp (key x) (key first) ≡ Greater
      → put (first ∷ rest) x ≡ first ∷ put rest x

turned : (a b : List ℕ) → cmp a b ≡ Less → cmp b a ≡ Greater
turned a b e = nat_list_cmp_total.antisymm b a ∙ ap ordering_reverse e

turned_back : (a b : List ℕ) → cmp a b ≡ Greater → cmp b a ≡ Less
turned_back a b e = nat_list_cmp_total.antisymm b a ∙ ap ordering_reverse e

module _ {X : Type 0} (key : X → List ℕ) where
  -- the text is before those of all
  abbrev pub IsBefore : List ℕ → List X → Type 0
  IsBefore text xs = AllByRecursion (λ x. cmp text (key x) ≡ Less) xs

  abbrev pub Rises : List X → Type 0
  Rises [] = Unit {0}
  Rises (x ∷ xs) = IsBefore (key x) xs × Rises xs

  sooner : (a b : List ℕ) (xs : List X) → cmp a b ≡ Less → IsBefore b xs → IsBefore a xs
  sooner a b [] e h = tt
  sooner a b (x ∷ xs) e h = (nat_list_cmp_total.trans a b (key x) e h.0, sooner a b xs e h.1)

  module _ (put : List X → X → List X) (puts : Puts X key put) where
    put_before : (text : List ℕ) (xs : List X) (x : X) → IsBefore text xs → cmp text (key x) ≡ Less
        → IsBefore text (put xs x)
    put_before text [] x h e = subst (IsBefore text) (sym (puts.alone x)) (e, tt)
    put_before text (first ∷ rest) x h e =
        by_order (cmp (key x) (key first)) refl (put_before text rest x h.1 e)
      where
        by_order : (o : Ordering) → cmp (key x) (key first) ≡ o → IsBefore text (put rest x)
            → IsBefore text (put (first ∷ rest) x)
        by_order Less o later = subst (IsBefore text) (sym (puts.before first rest x o)) (e, h)
        by_order Equal o later =
            let p = puts.equal first rest x o in
            subst (IsBefore text) (sym p.is) (ap (cmp text) p.same ∙ h.0, h.1)
        by_order Greater o later = subst (IsBefore text) (sym (puts.behind first rest x o)) (h.0, later)

    put_rises : (xs : List X) (x : X) → Rises xs → Rises (put xs x)
    put_rises [] x h = subst Rises (sym (puts.alone x)) (tt, tt)
    put_rises (first ∷ rest) x h =
        by_order (cmp (key x) (key first)) refl (put_rises rest x h.1)
      where
        by_order : (o : Ordering) → cmp (key x) (key first) ≡ o → Rises (put rest x)
            → Rises (put (first ∷ rest) x)
        by_order Less o later =
            subst Rises (sym (puts.before first rest x o)) ((o, sooner (key x) (key first) rest o h.0), h)
        by_order Equal o later =
            let p = puts.equal first rest x o in
            subst Rises (sym p.is) (subst (λ text. IsBefore text rest) (sym p.same) h.0, h.1)
        by_order Greater o later =
            subst Rises (sym (puts.behind first rest x o))
            (put_before (key first) rest x h.0 (turned_back (key x) (key first) o), later)

    pub all_rise : (xs more : List X) → Rises xs → Rises (fold put xs more)
    all_rise xs [] h = h
    all_rise xs (x ∷ more) h = all_rise (put xs x) more (put_rises xs x h)

    pub all_before : (text : List ℕ) (xs more : List X) → IsBefore text xs → IsBefore text more
        → IsBefore text (fold put xs more)
    all_before text xs [] h m = h
    all_before text xs (x ∷ more) h m =
        all_before text (put xs x) more (put_before text xs x h m.0) m.1

    -- an element before all others is put first
    pub put_first : (xs : List X) (x : X) → IsBefore (key x) xs → put xs x ≡ x ∷ xs
    put_first [] x h = puts.alone x
    put_first (first ∷ rest) x h = puts.before first rest x h.0

    -- and stays first
    pub stays_first : (first : X) (xs more : List X) → IsBefore (key first) more
        → fold put (first ∷ xs) more ≡ first ∷ fold put xs more
    stays_first first xs [] h = refl
    stays_first first xs (x ∷ more) h =
        ap (λ l. fold put l more) (puts.behind first xs x (turned (key first) (key x) h.0))
        ∙ stays_first first (put xs x) more h.1

    pub made_again : (xs : List X) → Rises xs → fold put [] xs ≡ xs
    made_again [] h = refl
    made_again (x ∷ xs) h =
        ap (λ l. fold put l xs) (puts.alone x) ∙ stays_first x [] xs h.0
        ∙ ap (λ l. x ∷ l) (made_again xs h.1)
