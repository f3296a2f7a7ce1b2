-- Trees with the same leaves have the same terms of leaves, and as many.
use Rattle.std.proofs.Common.{◌≡◌, ℕ, ◌+◌, ◌≤◌, ◌<◌, zero, suc, List, [], ◌∷◌, Bool, true, false, cond, ◌||◌, length, get_or, map, refl, sym, ap, ◌∙◌, subst, arith}
use Rattle.std.proofs.lemmas.Bool.{false≢true}
use Rattle.std.proofs.lemmas.Map.Made.{is_member-Decides}
use Rattle.std.proofs.lemmas.Slice.Eq.{bytes_eq-Decides}
use Rattle.std.specs.List.{Contains, sum_by}
use Rattle.std.specs.Prelude.{◌↔◌}
use Rattle.std.specs.Str.{bytes_eq}
use Rattle.ax_tree.specs.declared.tree.Tree.{Tree}
use Rattle.ax_tree.specs.Nesting.{greatest}
use Rattle.ax_policy.specs.declared.policy.Policy.{Policy}
use Rattle.ax_terms.specs.Counts.{capped, distinct_terms, path_size, term_count}
use Rattle.ax_terms.specs.Leaves.{leaves}
use Rattle.ax_terms.specs.SameLeaves.{HaveSameLeaves}
use Rattle.ax_terms.specs.TermsOf.{HasPlain, leaf_term}
use Rattle.ax_terms.proofs.Distinct.{Terms, among, unique, weight, weight-length, weight-sum}
use Rattle.ax_terms.proofs.Sequences.{contains_first, contains_later, contains_map, from_map}

-- ---- terms

one_way : (policy : Policy) (a b : Tree) → HaveSameLeaves a b → (bytes : List ℕ) → HasPlain policy a bytes
    → HasPlain policy b bytes
one_way policy a b same bytes h = (h.0, (same h.0).0 h.1, h.2, h.3)

turned : (a b : Tree) → HaveSameLeaves a b → HaveSameLeaves b a
turned a b same leaf = ((same leaf).1, (same leaf).0)

pub same_terms : (policy : Policy) (a b : Tree) → HaveSameLeaves a b → (bytes : List ℕ)
    → HasPlain policy a bytes ↔ HasPlain policy b bytes
same_terms policy a b same bytes = (
  one_way policy a b same bytes,
  one_way policy b a (turned a b same) bytes,
)

-- ---- how many distinct ones

second_of : (a b : Bool) → a ≡ false → (a || b) ≡ true → b ≡ true
second_of true b e h = absurd (false≢true (sym e))
second_of false b e h = h

first_or : (a b : Bool) → a ≡ true → (a || b) ≡ true
first_or true b e = refl
first_or false b e = absurd (false≢true e)

abbrev drop_one : List ℕ → Terms → Terms
drop_one x [] = []
drop_one x (y ∷ ys) = cond (bytes_eq x y) ys (y ∷ drop_one x ys)

same_bytes : (x y : List ℕ) → bytes_eq x y ≡ true → x ≡ y
same_bytes x y = (bytes_eq-Decides x y).0

lighter_by : (w : List ℕ → ℕ) (x y : List ℕ) (ys : Terms) (b : Bool) → bytes_eq x y ≡ b
    → (among ys x ≡ true → weight w ys ≡ w x + weight w (drop_one x ys))
    → (b || among ys x) ≡ true → w y + weight w ys ≡ w x + weight w (cond b ys (y ∷ drop_one x ys))
lighter_by w x y ys true e rest h = ap (λ n. n + weight w ys) (ap w (sym (same_bytes x y e)))
lighter_by w x y ys false e rest h = let f = rest h in omega (arith, f)

lighter : (w : List ℕ → ℕ) (x : List ℕ) (ys : Terms) → among ys x ≡ true
    → weight w ys ≡ w x + weight w (drop_one x ys)
lighter w x [] h = absurd (false≢true h)
lighter w x (y ∷ ys) h = lighter_by w x y ys (bytes_eq x y) refl (lighter w x ys) h

still_by : (x q y : List ℕ) (ys : Terms) (b c : Bool) → bytes_eq x y ≡ b → bytes_eq q y ≡ c
    → (among ys q ≡ true → among (drop_one x ys) q ≡ true) → (c || among ys q) ≡ true
    → bytes_eq q x ≡ false → among (cond b ys (y ∷ drop_one x ys)) q ≡ true
still_by x q y ys true c e f rest h apart =
    let g : c ≡ false = sym f ∙ ap (bytes_eq q) (sym (same_bytes x y e)) ∙ apart in
    second_of c (among ys q) g h
still_by x q y ys false true e f rest h apart = first_or (bytes_eq q y) (among (drop_one x ys) q) f
still_by x q y ys false false e f rest h apart =
    let g : among (drop_one x ys) q ≡ true = rest h in
    ap (λ c. c || among (drop_one x ys) q) f ∙ g

still : (x q : List ℕ) (ys : Terms) → among ys q ≡ true → bytes_eq q x ≡ false
    → among (drop_one x ys) q ≡ true
still x q [] h apart = h
still x q (y ∷ ys) h apart =
    still_by x q y ys (bytes_eq x y) (bytes_eq q y) refl refl (λ k. still x q ys k apart) h apart

unique_by : (q y : List ℕ) (ys : Terms) (m c : Bool) → among ys y ≡ m → bytes_eq q y ≡ c
    → (among ys q ≡ true → among (unique ys) q ≡ true) → (c || among ys q) ≡ true
    → among (cond m (unique ys) (y ∷ unique ys)) q ≡ true
unique_by q y ys true true e f rest h = rest (ap (among ys) (same_bytes q y f) ∙ e)
unique_by q y ys true false e f rest h = rest h
unique_by q y ys false true e f rest h = first_or (bytes_eq q y) (among (unique ys) q) f
unique_by q y ys false false e f rest h = ap (λ c. c || among (unique ys) q) f ∙ rest h

among_unique : (q : List ℕ) (ys : Terms) → among ys q ≡ true → among (unique ys) q ≡ true
among_unique q [] h = h
among_unique q (y ∷ ys) h =
    unique_by q y ys (among ys y) (bytes_eq q y) refl refl (among_unique q ys) h

apart_by : (q x : List ℕ) (xs : Terms) (b : Bool) → bytes_eq q x ≡ b → among xs x ≡ false
    → among xs q ≡ true → bytes_eq q x ≡ false
apart_by q x xs true e absent there = absurd (false≢true (sym absent ∙ ap (among xs) (sym (same_bytes q x e)) ∙ there))
apart_by q x xs false e absent there = e

or_later : (a b : Bool) → b ≡ true → (a || b) ≡ true
or_later true b k = refl
or_later false b k = k

heavier_by : (w : List ℕ → ℕ) (x : List ℕ) (xs ys : Terms) (m : Bool) → among xs x ≡ m
    → ((q : List ℕ) → (bytes_eq q x || among xs q) ≡ true → among ys q ≡ true)
    → ((zs : Terms) → ((q : List ℕ) → among xs q ≡ true → among zs q ≡ true) → weight w (unique xs) ≤ weight w zs)
    → weight w (cond m (unique xs) (x ∷ unique xs)) ≤ weight w ys
heavier_by w x xs ys true e h rest = rest ys (λ q k. h q (or_later (bytes_eq q x) (among xs q) k))
heavier_by w x xs ys false e h rest =
    let found : among ys x ≡ true = h x (first_or (bytes_eq x x) (among xs x) ((bytes_eq-Decides x x).1 refl)) in
    let less : weight w ys ≡ w x + weight w (drop_one x ys) = lighter w x ys found in
    let more : weight w (unique xs) ≤ weight w (drop_one x ys) =
    rest (drop_one x ys)
    (λ q k. still x q ys (h q (or_later (bytes_eq q x) (among xs q) k)) (apart_by q x xs (bytes_eq q x) refl e k)) in
    omega (arith, less, more)

-- what all stands among others weighs no more, each counted once
heavier : (w : List ℕ → ℕ) (xs ys : Terms) → ((q : List ℕ) → among xs q ≡ true → among ys q ≡ true)
    → weight w (unique xs) ≤ weight w ys
heavier w [] ys h = omega arith
heavier w (x ∷ xs) ys h = heavier_by w x xs ys (among xs x) refl h (heavier w xs)

same_weight : (w : List ℕ → ℕ) (xs ys : Terms) → ((q : List ℕ) → among xs q ≡ true → among ys q ≡ true)
    → ((q : List ℕ) → among ys q ≡ true → among xs q ≡ true)
    → weight w (unique xs) ≡ weight w (unique ys)
same_weight w xs ys f g =
    let up : weight w (unique xs) ≤ weight w (unique ys) = heavier w xs (unique ys) (λ q h. among_unique q ys (f q h)) in
    let down : weight w (unique ys) ≤ weight w (unique xs) = heavier w ys (unique xs) (λ q h. among_unique q xs (g q h)) in
    omega (arith, up, down)

-- ---- the longest path

at_most : (ns : List ℕ) (m : ℕ) → ((n : ℕ) → Contains ns n → n ≤ m) → greatest ns ≤ m
at_most [] m h = omega arith
at_most (n ∷ ns) m h =
    let first : n ≤ m = h n (contains_first n ns) in
    let rest : greatest ns ≤ m = at_most ns m (λ k i. h k (contains_later n ns k i)) in
    omega (arith, first, rest)

greatest_from : (ns : List ℕ) (n k : ℕ) → k < length ns → get_or ns k n ≡ n → n ≤ greatest ns
greatest_from [] n k low is = absurd (let e : ⊥ = omega (arith, low) in e)
greatest_from (m ∷ ns) n zero low is = omega (arith, is)
greatest_from (m ∷ ns) n (suc k) low is =
    let rest : n ≤ greatest ns = greatest_from ns n k (omega (arith, low)) is in omega (arith, rest)

below_greatest : (ns : List ℕ) (n : ℕ) → Contains ns n → n ≤ greatest ns
below_greatest ns n h = greatest_from ns n h.0 h.1 h.2

no_longer : (a b : Tree) → HaveSameLeaves a b
    → greatest (map path_size (leaves a)) ≤ greatest (map path_size (leaves b))
no_longer a b same =
    at_most (map path_size (leaves a)) _ (λ n h. let x = from_map path_size (leaves a) n h in
    subst (λ k. k ≤ greatest (map path_size (leaves b))) x.2
    (below_greatest (map path_size (leaves b)) (path_size x.0)
    (contains_map path_size (leaves b) x.0 ((same x.0).0 x.1))))

-- ---- together

abbrev terms_in : Tree → Terms
terms_in given = map leaf_term (leaves given)

among_other : (a b : Tree) → HaveSameLeaves a b → (q : List ℕ) → among (terms_in a) q ≡ true
    → among (terms_in b) q ≡ true
among_other a b same q h =
    let x = from_map leaf_term (leaves a) q ((is_member-Decides bytes_eq-Decides (terms_in a) q).0 h) in
    (is_member-Decides bytes_eq-Decides (terms_in b) q).1
    (subst (Contains (terms_in b)) x.2 (contains_map leaf_term (leaves b) x.0 ((same x.0).0 x.1)))

weights : (w : List ℕ → ℕ) (a b : Tree) → HaveSameLeaves a b
    → weight w (unique (terms_in a)) ≡ weight w (unique (terms_in b))
weights w a b same =
    same_weight w (terms_in a) (terms_in b) (among_other a b same) (among_other b a (turned a b same))

pub same_counts : (a b : Tree) → HaveSameLeaves a b → term_count a ≡ term_count b
same_counts a b same =
    let count : length (distinct_terms (leaves a)) ≡ length (distinct_terms (leaves b)) =
    weight-length (unique (terms_in a)) ∙ weights (λ t. 1) a b same ∙ sym (weight-length (unique (terms_in b))) in
    let bytes : sum_by length (distinct_terms (leaves a)) ≡ sum_by length (distinct_terms (leaves b)) =
    weight-sum (unique (terms_in a)) ∙ weights length a b same ∙ sym (weight-sum (unique (terms_in b))) in
    let up = no_longer a b same in
    let down = no_longer b a (turned a b same) in
    let path : greatest (map path_size (leaves a)) ≡ greatest (map path_size (leaves b)) = omega (arith, up, down) in
    λ i. record { count = capped (count i); bytes = capped (bytes i); longest_path = capped (path i) }
