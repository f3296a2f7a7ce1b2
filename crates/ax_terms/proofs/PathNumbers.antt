-- Numbers of paths: each is of one path, and a path keeps its number.
use Rattle.std.proofs.Common.{◌≡◌, ℕ, ◌+◌, ◌<◌, ◌≤◌, List, [], ◌∷◌, ◌++◌, Bool, true, false, cond, Option, Some, None, option_and_then, is_some, reverse, ◌||◌, refl, sym, ap, ap₂, ◌∙◌, arith, inl, inr, ⊎_elim, map}
use Rattle.std.proofs.lemmas.List.{reverse-reverse}
use Rattle.std.proofs.lemmas.Map.Text.{is_eq-slice_cmp}
use Rattle.std.proofs.lemmas.Slice.Eq.{bytes_eq-Decides}
use Rattle.std.specs.BTreeMap.{BTreeMap, btree_map_len, get, Updates}
use Rattle.std.specs.Cmp.{Equal-is, both_ways}
use Rattle.std.specs.Cmp.Lexicographic.{slice_cmp}
use Rattle.std.specs.Option.{unwrap_or}
use Rattle.std.specs.Ordering.{nat_cmp}
use Rattle.std.specs.Prelude.{◌⊎◌}
use Rattle.std.specs.Set.{is_member}
use Rattle.std.specs.Str.{bytes_eq}
use Rattle.std.specs.declared.cmp.Ordering.TheVariants.{Equal}
use Rattle.ax_mean.specs.declared.query.Step.{Step}
use Rattle.ax_mean.specs.declared.value.Value.TheVariants.{Defined}
use Rattle.ax_term.specs.CutValues.{cut_of}
use Rattle.ax_term.specs.TermBytes.{step_bytes, path_bytes, value_bytes}
use Rattle.ax_term.specs.TermOrder.{order_of_bytes, order_of_paths}
use Rattle.ax_term.proofs.Decided.{alone}
use Rattle.ax_term.proofs.InOrder.{decides_paths}
use Rattle.ax_term.proofs.OneTerm.{both_equal, one_list, one_path}
use Rattle.ax_terms.specs.Counting.{AreNumbered, AreNumbers, Gives, HasNumber, Keeps, Numbers, key_of, number_back, number_of}
use Rattle.ax_terms.specs.Leaves.{Leaf}
use Rattle.ax_terms.specs.TermsOf.{leaf_term}

-- ---- steps and paths by their bytes

same_order : (a b : List ℕ) → a ≡ b → order_of_bytes a b ≡ Equal
same_order a b e = (Equal-is _).0 (is_eq-slice_cmp a b ∙ (bytes_eq-Decides a b).1 e)

first_same : {A : Type 0} (a b : A) (xs ys : List A) → a ∷ xs ≡ b ∷ ys → a ≡ b
first_same a b xs ys e = cc

rest_same : {A : Type 0} (a b : A) (xs ys : List A) → a ∷ xs ≡ b ∷ ys → xs ≡ ys
rest_same a b xs ys e = cc

one_step : (s t : Step) → step_bytes s ≡ step_bytes t → s ≡ t
one_step s t e =
    let bytes : path_bytes (s ∷ []) ≡ path_bytes (t ∷ []) = ap (λ b. b ++ 1 ∷ []) e in
    let order : order_of_paths (s ∷ []) (t ∷ []) ≡ Equal =
    sym (alone _ _ _ (decides_paths (s ∷ []) (t ∷ []))) ∙ same_order _ _ bytes in
    first_same s t [] [] (one_path (s ∷ []) (t ∷ []) order)

-- a path and what stands behind it
one_front : (p q : List Step) (v w : List ℕ) → path_bytes p ++ v ≡ path_bytes q ++ w → (p ≡ q) × (v ≡ w)
one_front p q v w e =
    let parts = both_equal (order_of_paths p q) (order_of_bytes v w)
    (sym ((decides_paths p q).so v w) ∙ same_order _ _ e) in
    (one_path p q parts.0, one_list v w parts.1)

-- ---- numbers of paths

followed : {A B : Type 0} (f : A → Option B) (o : Option A) (b : B) → option_and_then f o ≡ Some b
    → (a : A) × (o ≡ Some a) × (f a ≡ Some b)
followed f None b e = absurd (cc)
followed f (Some a) b e = (a, refl, e)

some_same : {A : Type 0} (a b : A) → Some a ≡ Some b → a ≡ b
some_same a b e = cc

not_zero : {A : Type 0} (n : ℕ) → 0 ≡ n → 0 < n → A
not_zero n e h = absurd (let g : ⊥ = omega (arith, e, h) in g)

one_back : (numbers : Numbers) (last : ℕ) → AreNumbers numbers last → (p q : List Step) (n : ℕ)
    → number_back numbers p ≡ Some n → number_back numbers q ≡ Some n → p ≡ q
one_back numbers last a [] [] n h k = refl
one_back numbers last a [] (t ∷ q) n h k =
    let x = followed _ (number_back numbers q) n k in
    not_zero n (some_same 0 n h) (a.above _ n x.2)
one_back numbers last a (s ∷ p) [] n h k =
    let x = followed _ (number_back numbers p) n h in
    not_zero n (some_same 0 n k) (a.above _ n x.2)
one_back numbers last a (s ∷ p) (t ∷ q) n h k =
    let x = followed _ (number_back numbers p) n h in
    let y = followed _ (number_back numbers q) n k in
    let keys = a.one (x.0 ∷ step_bytes s) (y.0 ∷ step_bytes t) n x.2 y.2 in
    let first : y.0 ≡ x.0 = sym (first_same _ _ _ _ keys) in
    let rest = one_back numbers last a p q x.0 x.1 (y.1 ∙ ap Some first) in
    let step = one_step s t (rest_same _ _ _ _ keys) in
    λ i. step i ∷ rest i

one_number : (numbers : Numbers) (last : ℕ) → AreNumbers numbers last → (p q : List Step) (n : ℕ)
    → number_of numbers p ≡ Some n → number_of numbers q ≡ Some n → p ≡ q
one_number numbers last a p q n h k =
    sym (reverse-reverse p) ∙ ap reverse (one_back numbers last a (reverse p) (reverse q) n h k)
    ∙ reverse-reverse q

pub kept_back : (old new : Numbers) → Keeps old new → (p : List Step) (n : ℕ)
    → number_back old p ≡ Some n → number_back new p ≡ Some n
kept_back old new k [] n h = h
kept_back old new k (s ∷ p) n h =
    let x = followed _ (number_back old p) n h in
    ap (option_and_then (λ m. new (m ∷ step_bytes s))) (kept_back old new k p x.0 x.1) ∙ k _ n x.2

-- ---- leaves by their keys

key_kept : (old new : Numbers) → Keeps old new → (leaf : Leaf) → HasNumber old leaf
    → key_of old leaf ≡ key_of new leaf
key_kept old new k leaf h =
    let e : number_of old leaf.path ≡ number_of new leaf.path =
    h.1 ∙ sym (kept_back old new k (reverse leaf.path) h.0 h.1) in
    ap (λ o. unwrap_or o 0 ∷ value_bytes (cut_of (Defined leaf.tree))) e

pub keys_kept : (old new : Numbers) → Keeps old new → (done : List Leaf) → AreNumbered old done
    → map (key_of old) done ≡ map (key_of new) done
keys_kept old new k [] h = refl
keys_kept old new k (leaf ∷ done) h =
    let first = key_kept old new k leaf h.0 in
    let rest = keys_kept old new k done h.1 in
    λ i. first i ∷ rest i

pub numbered_kept : (old new : Numbers) → Keeps old new → (done : List Leaf) → AreNumbered old done
    → AreNumbered new done
numbered_kept old new k [] h = tt
numbered_kept old new k (leaf ∷ done) h = (
  (h.0.0, kept_back old new k (reverse leaf.path) h.0.0 h.0.1),
  numbered_kept old new k done h.1,
)

pub numbered_more : (numbers : Numbers) (done : List Leaf) (leaf : Leaf) → AreNumbered numbers done
    → HasNumber numbers leaf → AreNumbered numbers (done ++ leaf ∷ [])
numbered_more numbers [] leaf h one = (one, tt)
numbered_more numbers (first ∷ done) leaf h one = (h.0, numbered_more numbers done leaf h.1 one)

key_from_term : (numbers : Numbers) (a b : Leaf) → leaf_term a ≡ leaf_term b
    → key_of numbers a ≡ key_of numbers b
key_from_term numbers a b e =
    let parts = one_front a.path b.path _ _ (rest_same _ _ _ _ e) in
    let path = parts.0 in
    let value = parts.1 in
    λ i. unwrap_or (number_of numbers (path i)) 0 ∷ value i

term_from_key : (numbers : Numbers) (last : ℕ) → AreNumbers numbers last → (a b : Leaf)
    → HasNumber numbers a → HasNumber numbers b → key_of numbers a ≡ key_of numbers b
    → leaf_term a ≡ leaf_term b
term_from_key numbers last are a b h k e =
    let number : h.0 ≡ k.0 =
    sym (ap (λ o. unwrap_or o 0) h.1) ∙ first_same _ _ _ _ e ∙ ap (λ o. unwrap_or o 0) k.1 in
    let path = one_number numbers last are a.path b.path k.0 (h.1 ∙ ap Some number) k.1 in
    let value = rest_same _ _ _ _ e in
    λ i. 2 ∷ (path_bytes (path i) ++ value i)

same_test : (numbers : Numbers) (last : ℕ) → AreNumbers numbers last → (a b : Leaf)
    → HasNumber numbers a → HasNumber numbers b
    → bytes_eq (leaf_term a) (leaf_term b) ≡ bytes_eq (key_of numbers a) (key_of numbers b)
same_test numbers last are a b h k =
    let terms = bytes_eq-Decides (leaf_term a) (leaf_term b) in
    let keys = bytes_eq-Decides (key_of numbers a) (key_of numbers b) in
    both_ways _ _ (λ e. keys.1 (key_from_term numbers a b (terms.0 e)))
    (λ e. terms.1 (term_from_key numbers last are a b h k (keys.0 e)))

-- a leaf has its term among those of others just where it has its key among theirs
pub same_member : (numbers : Numbers) (last : ℕ) → AreNumbers numbers last → (leaf : Leaf)
    → HasNumber numbers leaf → (done : List Leaf) → AreNumbered numbers done
    → is_member bytes_eq (map leaf_term done) (leaf_term leaf)
    ≡ is_member bytes_eq (map (key_of numbers) done) (key_of numbers leaf)
same_member numbers last are leaf h [] k = refl
same_member numbers last are leaf h (first ∷ done) k =
    let one = same_test numbers last are leaf first h k.0 in
    let rest = same_member numbers last are leaf h done k.1 in
    ap₂ (λ a b. a || b) one rest

-- ---- a number that is found or given

abbrev look : BTreeMap (List ℕ) ℕ → List ℕ → Option ℕ
look m = get (slice_cmp nat_cmp) m

pub has_number : (m : BTreeMap (List ℕ) ℕ) (key : List ℕ) (n : ℕ) → Some n ≡ look m key → Gives m key n m
has_number m key n h = record { given = sym h; keeps = λ k m e. e; numbers = λ a. a }

by_test : (key q : List ℕ) (n : ℕ) (before after : Option ℕ) (b : Bool) → bytes_eq key q ≡ b
    → after ≡ cond b (Some n) before → ((key ≡ q) × (after ≡ Some n)) ⊎ (after ≡ before)
by_test key q n before after true t e = inl ((bytes_eq-Decides key q).0 t, e)
by_test key q n before after false t e = inr e

pub none_is_not : {A : Type 0} {n : ℕ} → None ≡ Some n → A
none_is_not e = absurd (cc)

module _ (old new : BTreeMap (List ℕ) ℕ) (key : List ℕ) (n : ℕ) (u : Updates (slice_cmp nat_cmp) old new key (Some n)) where
  after : (q : List ℕ) → ((key ≡ q) × (look new q ≡ Some n)) ⊎ (look new q ≡ look old q)
  after q =
      by_test key q n (look old q) (look new q) (bytes_eq key q) refl
      (u.0 q ∙ ap (λ b. cond b (Some n) (look old q)) (is_eq-slice_cmp key q))

  keeps_others : None ≡ look old key → Keeps (look old) (look new)
  keeps_others absent q m e =
      ⊎_elim (λ h. none_is_not (absent ∙ ap (look old) h.0 ∙ e)) (λ h. h ∙ e) (after q)

  gives : None ≡ look old key → n ≡ btree_map_len old + 1 → btree_map_len new ≡ btree_map_len old + 1
      → Gives old key n new
  gives absent is len = record {
    given = u.1;
    keeps = keeps_others absent;
    numbers = λ a. record {
      above = λ q m e.
          ⊎_elim (λ h. let s : n ≡ m = some_same n m (sym h.1 ∙ e) in omega (arith, s, is))
          (λ h. a.above q m (sym h ∙ e)) (after q);
      within = λ q m e.
          ⊎_elim (λ h. let s : n ≡ m = some_same n m (sym h.1 ∙ e) in omega (arith, s, is, len))
          (λ h. let s : m ≤ btree_map_len old = a.within q m (sym h ∙ e) in omega (arith, s, len)) (after q);
      one = λ p q m e f.
          ⊎_elim
          (λ h. ⊎_elim (λ k. sym h.0 ∙ k.0)
          (λ k. let s : n ≡ m = some_same n m (sym h.1 ∙ e) in
          let t : m ≤ btree_map_len old = a.within q m (sym k ∙ f) in
          let g : ⊥ = omega (arith, s, is, t) in absurd g)
          (after q))
          (λ h. ⊎_elim
          (λ k. let s : n ≡ m = some_same n m (sym k.1 ∙ f) in
          let t : m ≤ btree_map_len old = a.within p m (sym h ∙ e) in
          let g : ⊥ = omega (arith, s, is, t) in absurd g)
          (λ k. a.one p q m (sym h ∙ e) (sym k ∙ f))
          (after q))
          (after p);
    };
  }

-- `insert` answers what was there
pub gets_number : (old new : BTreeMap (List ℕ) ℕ) (key : List ℕ) (n : ℕ) (before : Option ℕ)
    → None ≡ look old key → before ≡ look old key → n ≡ btree_map_len old + 1
    → Updates (slice_cmp nat_cmp) old new key (Some n)
    → btree_map_len new ≡ btree_map_len old + cond (is_some before) 0 1 → Gives old key n new
gets_number old new key n before absent b is u len =
    let none : is_some before ≡ false = ap is_some (b ∙ sym absent) in
    gives old new key n u absent is (len ∙ ap (λ t. btree_map_len old + cond t 0 1) none)
