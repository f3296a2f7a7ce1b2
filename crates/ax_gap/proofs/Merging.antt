-- The set operations on lists that rise strictly, as functions on lists, and what each step of a
-- merge does to them.
use Rattle.std.proofs.Common.{◌≡◌, ℕ, ◌+◌, ◌<◌, ◌≤◌, ◌==◌, ◌||◌, List, [], ◌∷◌, ◌++◌, length, get_or, drop, arith, refl, ap, ◌∙◌, sym, Bool, true}
use Rattle.std.proofs.Common.{false, not, nat_lt, if◌then◌else◌, filter, ⊎_elim, ◌⊎◌}
use Rattle.std.proofs.lemmas.Bool.{lt-ltb, le-ltb, ne_eqb, eq-eqb, cases_order}
use Rattle.std.proofs.lemmas.List.{drop_more, drop_all, append_assoc, append-nil}
use Rattle.ax_gap.proofs.Rising.{RisesFrom}

-- is the number in the list?
abbrev pub is_in : ℕ → List ℕ → Bool
is_in n [] = false
is_in n (x ∷ xs) = (n == x) || is_in n xs

abbrev pub meet_of : List ℕ → List ℕ → List ℕ
meet_of xs ys = filter (λ n. is_in n ys) xs

abbrev pub without_of : List ℕ → List ℕ → List ℕ
without_of xs ys = filter (λ n. not (is_in n ys)) xs

-- a number put where it belongs
abbrev pub put : ℕ → List ℕ → List ℕ
put x [] = x ∷ []
put x (y ∷ ys) = if nat_lt x y then x ∷ y ∷ ys else (if nat_lt y x then y ∷ put x ys else y ∷ ys)

abbrev pub join_of : List ℕ → List ℕ → List ℕ
join_of [] ys = ys
join_of (x ∷ xs) ys = put x (join_of xs ys)

-- ---- rising lists

pub rises_lower : (low least : ℕ) (xs : List ℕ) → low ≤ least → RisesFrom least xs → RisesFrom low xs
rises_lower low least [] h up = tt
rises_lower low least (x ∷ xs) h up = (omega (arith, up.0), up.1, up.2)

-- a number below all of a list is not in it
pub below_all : (n least : ℕ) (xs : List ℕ) → n < least → RisesFrom least xs → is_in n xs ≡ false
below_all n least [] h up = refl
below_all n least (x ∷ xs) h up =
    let apart : (n == x) ≡ false = ne_eqb n x (λ e. omega (arith, up.0)) in
    rw apart (below_all n (x + 1) xs (omega (arith, up.0)) up.2)

-- ---- the intersection

meet-past : (y least : ℕ) (xs ys : List ℕ) → y < least → RisesFrom least xs → meet_of xs (y ∷ ys) ≡ meet_of xs ys
meet-past y least [] ys h up = refl
meet-past y least (x ∷ xs) ys h up =
    let apart : (x == y) ≡ false = ne_eqb x y (λ e. omega (arith, up.0)) in
    rw (apart, meet-past y (x + 1) xs ys (omega (arith, up.0)) up.2) refl

pub meet-first_less : (x y : ℕ) (xs ys : List ℕ) → x < y → RisesFrom 0 (y ∷ ys) → meet_of (x ∷ xs) (y ∷ ys) ≡ meet_of xs (y ∷ ys)
meet-first_less x y xs ys h up = let out : is_in x (y ∷ ys) ≡ false = below_all x y (y ∷ ys) h (omega arith, up.1, up.2) in rw out refl

pub meet-second_less : (x y : ℕ) (xs ys : List ℕ) → y < x → RisesFrom 0 (x ∷ xs) → meet_of (x ∷ xs) (y ∷ ys) ≡ meet_of (x ∷ xs) ys
meet-second_less x y xs ys h up = meet-past y x (x ∷ xs) ys h (omega arith, up.1, up.2)

pub meet-both : (x : ℕ) (xs ys : List ℕ) → RisesFrom 0 (x ∷ xs) → meet_of (x ∷ xs) (x ∷ ys) ≡ x ∷ meet_of xs ys
meet-both x xs ys up =
    let here : (x == x) ≡ true = eq-eqb x x refl in
    rw here (ap (λ l. x ∷ l) (meet-past x (x + 1) xs ys (omega arith) up.2))

pub meet-none : (xs : List ℕ) → meet_of xs [] ≡ []
meet-none [] = refl
meet-none (x ∷ xs) = meet-none xs

-- ---- the difference

without-past : (y least : ℕ) (xs ys : List ℕ) → y < least → RisesFrom least xs → without_of xs (y ∷ ys) ≡ without_of xs ys
without-past y least [] ys h up = refl
without-past y least (x ∷ xs) ys h up =
    let apart : (x == y) ≡ false = ne_eqb x y (λ e. omega (arith, up.0)) in
    rw (apart, without-past y (x + 1) xs ys (omega (arith, up.0)) up.2) refl

pub without-first_less : (x y : ℕ) (xs ys : List ℕ) → x < y → RisesFrom 0 (y ∷ ys) → without_of (x ∷ xs) (y ∷ ys) ≡ x ∷ without_of xs (y ∷ ys)
without-first_less x y xs ys h up = let out : is_in x (y ∷ ys) ≡ false = below_all x y (y ∷ ys) h (omega arith, up.1, up.2) in rw out refl

pub without-second_less : (x y : ℕ) (xs ys : List ℕ) → y < x → RisesFrom 0 (x ∷ xs) → without_of (x ∷ xs) (y ∷ ys) ≡ without_of (x ∷ xs) ys
without-second_less x y xs ys h up = without-past y x (x ∷ xs) ys h (omega arith, up.1, up.2)

pub without-both : (x : ℕ) (xs ys : List ℕ) → RisesFrom 0 (x ∷ xs) → without_of (x ∷ xs) (x ∷ ys) ≡ without_of xs ys
without-both x xs ys up =
    let here : (x == x) ≡ true = eq-eqb x x refl in
    rw here (without-past x (x + 1) xs ys (omega arith) up.2)

pub without-none : (xs : List ℕ) → without_of xs [] ≡ xs
without-none [] = refl
without-none (x ∷ xs) = ap (λ l. x ∷ l) (without-none xs)

-- ---- the union

put-below : (x : ℕ) (ys : List ℕ) → RisesFrom (x + 1) ys → put x ys ≡ x ∷ ys
put-below x [] up = refl
put-below x (y ∷ ys) up = let s : nat_lt x y ≡ true = lt-ltb x y (omega (arith, up.0)) in rw s refl

pub put-above : (x y : ℕ) (ys : List ℕ) → y < x → put x (y ∷ ys) ≡ y ∷ put x ys
put-above x y ys h =
    let s : nat_lt x y ≡ false = le-ltb x y (omega arith) in
    let t : nat_lt y x ≡ true = lt-ltb y x h in
    rw (s, t) refl

pub put-same : (x : ℕ) (ys : List ℕ) → put x (x ∷ ys) ≡ x ∷ ys
put-same x ys = let s : nat_lt x x ≡ false = le-ltb x x (omega arith) in rw s refl

pub put-equal : (x y : ℕ) (ys : List ℕ) → x ≡ y → put x (y ∷ ys) ≡ y ∷ ys
put-equal x y ys e = ap (λ (m : ℕ). put m (y ∷ ys)) e ∙ put-same y ys

put_rises : (least x : ℕ) (ys : List ℕ) → least ≤ x → x < 4294967296 → RisesFrom least ys → RisesFrom least (put x ys)
put_rises least x [] l h up = (l, h, tt)
put_rises least x (y ∷ ys) l h up =
    ⊎_elim
    (λ e. rw (put-equal x y ys e) up)
    (λ (apart : (x < y) ⊎ (y < x)). ⊎_elim
    (λ (below : x < y). let s : nat_lt x y ≡ true = lt-ltb x y below in rw s (l, h, (omega arith, up.1, up.2)))
    (λ (above : y < x). rw (put-above x y ys above) (up.0, up.1, put_rises (y + 1) x ys (omega arith) h up.2))
    apart)
    (cases_order x y)

pub join_rises : (least : ℕ) (xs ys : List ℕ) → RisesFrom least xs → RisesFrom least ys → RisesFrom least (join_of xs ys)
join_rises least [] ys up vp = vp
join_rises least (x ∷ xs) ys up vp =
    put_rises least x (join_of xs ys) up.0 up.1
    (join_rises least xs ys (rises_lower least (x + 1) xs (omega (arith, up.0)) up.2) vp)

join-past : (y least : ℕ) (xs ys : List ℕ) → y < least → RisesFrom least xs → join_of xs (y ∷ ys) ≡ y ∷ join_of xs ys
join-past y least [] ys h up = refl
join-past y least (x ∷ xs) ys h up =
    ap (put x) (join-past y (x + 1) xs ys (omega (arith, up.0)) up.2)
    ∙ put-above x y (join_of xs ys) (omega (arith, up.0))

pub join-first_less : (x y : ℕ) (xs ys : List ℕ) → x < y → RisesFrom 0 (x ∷ xs) → RisesFrom 0 (y ∷ ys) → join_of (x ∷ xs) (y ∷ ys) ≡ x ∷ join_of xs (y ∷ ys)
join-first_less x y xs ys h up vp =
    put-below x (join_of xs (y ∷ ys)) (join_rises (x + 1) xs (y ∷ ys) up.2 (omega arith, vp.1, vp.2))

pub join-second_less : (x y : ℕ) (xs ys : List ℕ) → y < x → RisesFrom 0 (x ∷ xs) → join_of (x ∷ xs) (y ∷ ys) ≡ y ∷ join_of (x ∷ xs) ys
join-second_less x y xs ys h up = join-past y x (x ∷ xs) ys h (omega arith, up.1, up.2)

pub join-both : (x : ℕ) (xs ys : List ℕ) → RisesFrom 0 (x ∷ xs) → join_of (x ∷ xs) (x ∷ ys) ≡ x ∷ join_of xs ys
join-both x xs ys up = ap (put x) (join-past x (x + 1) xs ys (omega arith) up.2) ∙ put-same x (join_of xs ys)

pub join-none : (least : ℕ) (xs : List ℕ) → RisesFrom least xs → join_of xs [] ≡ xs
join-none least [] up = refl
join-none least (x ∷ xs) up = ap (put x) (join-none (x + 1) xs up.2) ∙ put-below x xs up.2

-- ---- a merge under way: what is written, and what the rests of the lists will add

pub record IsMerging (op : List ℕ → List ℕ → List ℕ) (out a b : List ℕ) (i j : ℕ) : Type 0 where
  pub adds : out ++ op (drop i a) (drop j b) ≡ op a b
  pub first : RisesFrom 0 (drop i a)
  pub second : RisesFrom 0 (drop j b)
  pub i_within : i ≤ length a
  pub j_within : j ≤ length b

pub begin_merge : (op : List ℕ → List ℕ → List ℕ) (out a b : List ℕ) → out ≡ [] → RisesFrom 0 a → RisesFrom 0 b → IsMerging op out a b 0 0
begin_merge op out a b e up vp = record {
  adds = rw e refl;
  first = up;
  second = vp;
  i_within = omega arith;
  j_within = omega arith;
}

at_drop : (xs : List ℕ) (i : ℕ) → i < length xs → RisesFrom 0 (drop i xs) → RisesFrom 0 (get_or xs i 0 ∷ drop (i + 1) xs)
at_drop xs i h up = let split : drop i xs ≡ get_or xs i 0 ∷ drop (i + 1) xs = drop_more xs i 0 h in rw split at up

rest_rises : (xs : List ℕ) (i : ℕ) → i < length xs → RisesFrom 0 (drop i xs) → RisesFrom 0 (drop (i + 1) xs)
rest_rises xs i h up =
    rises_lower 0 (get_or xs i 0 + 1) (drop (i + 1) xs) (omega arith) (at_drop xs i h up).2

-- what `new` adds to `out` is what the operation gives less where the heads are taken off
pub first_taken : (op : List ℕ → List ℕ → List ℕ) (out new a b : List ℕ) (i j : ℕ) → IsMerging op out a b i j → i < length a → j < length b
    → (RisesFrom 0 (get_or a i 0 ∷ drop (i + 1) a) → RisesFrom 0 (get_or b j 0 ∷ drop (j + 1) b) → new
    ++ op (drop (i + 1) a) (get_or b j 0 ∷ drop (j + 1) b) ≡ out ++ op (get_or a i 0 ∷ drop (i + 1) a) (get_or b j 0 ∷ drop (j + 1) b))
    → IsMerging op new a b (i + 1) j
first_taken op out new a b i j was h k step =
    let x : drop i a ≡ get_or a i 0 ∷ drop (i + 1) a = drop_more a i 0 h in
    let y : drop j b ≡ get_or b j 0 ∷ drop (j + 1) b = drop_more b j 0 k in
    let now = step (at_drop a i h was.first) (at_drop b j k was.second) in
    record {
      adds = ap (λ ys. new ++ op (drop (i + 1) a) ys) y ∙ now ∙ ap (λ xs. out ++ op xs (get_or b j 0 ∷ drop (j + 1) b)) (sym x)
          ∙ ap (λ ys. out ++ op (drop i a) ys) (sym y) ∙ was.adds;
      first = rest_rises a i h was.first;
      second = was.second;
      i_within = omega arith;
      j_within = was.j_within;
    }

pub second_taken : (op : List ℕ → List ℕ → List ℕ) (out new a b : List ℕ) (i j : ℕ) → IsMerging op out a b i j → i < length a → j < length b
    → (RisesFrom 0 (get_or a i 0 ∷ drop (i + 1) a) → RisesFrom 0 (get_or b j 0 ∷ drop (j + 1) b) → new
    ++ op (get_or a i 0 ∷ drop (i + 1) a) (drop (j + 1) b) ≡ out ++ op (get_or a i 0 ∷ drop (i + 1) a) (get_or b j 0 ∷ drop (j + 1) b))
    → IsMerging op new a b i (j + 1)
second_taken op out new a b i j was h k step =
    let x : drop i a ≡ get_or a i 0 ∷ drop (i + 1) a = drop_more a i 0 h in
    let y : drop j b ≡ get_or b j 0 ∷ drop (j + 1) b = drop_more b j 0 k in
    let now = step (at_drop a i h was.first) (at_drop b j k was.second) in
    record {
      adds = ap (λ xs. new ++ op xs (drop (j + 1) b)) x ∙ now ∙ ap (λ xs. out ++ op xs (get_or b j 0 ∷ drop (j + 1) b)) (sym x)
          ∙ ap (λ ys. out ++ op (drop i a) ys) (sym y) ∙ was.adds;
      first = was.first;
      second = rest_rises b j k was.second;
      i_within = was.i_within;
      j_within = omega arith;
    }

pub both_taken : (op : List ℕ → List ℕ → List ℕ) (out new a b : List ℕ) (i j : ℕ) → IsMerging op out a b i j → i < length a → j < length b
    → get_or b j 0 ≡ get_or a i 0 → (RisesFrom 0 (get_or a i 0 ∷ drop (i + 1) a) → new ++ op (drop (i + 1) a) (drop (j + 1) b) ≡ out
    ++ op (get_or a i 0 ∷ drop (i + 1) a) (get_or a i 0 ∷ drop (j + 1) b)) → IsMerging op new a b (i + 1) (j + 1)
both_taken op out new a b i j was h k same step =
    let x : drop i a ≡ get_or a i 0 ∷ drop (i + 1) a = drop_more a i 0 h in
    let y : drop j b ≡ get_or a i 0 ∷ drop (j + 1) b =
    drop_more b j 0 k ∙ ap (λ (m : ℕ). m ∷ drop (j + 1) b) same
    in
    let now = step (at_drop a i h was.first) in
    record {
      adds = now ∙ ap (λ xs. out ++ op xs (get_or a i 0 ∷ drop (j + 1) b)) (sym x) ∙ ap (λ ys. out ++ op (drop i a) ys) (sym y) ∙ was.adds;
      first = rest_rises a i h was.first;
      second = rest_rises b j k was.second;
      i_within = omega arith;
      j_within = omega arith;
    }

pub pushed : (out new : List ℕ) (x : ℕ) (more whole : List ℕ) → new ≡ out ++ x ∷ [] → whole ≡ x ∷ more → new ++ more ≡ out ++ whole
pushed out new x more whole e w = rw (e, w) (append_assoc out (x ∷ []) more)

-- ---- the end of a merge

pub meet_end : (out a b : List ℕ) (i j : ℕ) → IsMerging meet_of out a b i j → (length a ≤ i) ⊎ (length b ≤ j) → out ≡ meet_of a b
meet_end out a b i j was ended =
    let none : meet_of (drop i a) (drop j b) ≡ [] =
    ⊎_elim
    (λ h. ap (λ xs. meet_of xs (drop j b)) (drop_all i a h))
    (λ h. ap (λ ys. meet_of (drop i a) ys) (drop_all j b h) ∙ meet-none (drop i a))
    ended
    in sym (append-nil out) ∙ ap (λ l. out ++ l) (sym none) ∙ was.adds

pub without_end : (out a b : List ℕ) (i j : ℕ) → IsMerging without_of out a b i j → (length a ≤ i) ⊎ (length b ≤ j) → out ++ drop i a ≡ without_of a b
without_end out a b i j was ended =
    let rest : without_of (drop i a) (drop j b) ≡ drop i a =
    ⊎_elim
    (λ h. ap (λ xs. without_of xs (drop j b)) (drop_all i a h) ∙ sym (drop_all i a h))
    (λ h. ap (λ ys. without_of (drop i a) ys) (drop_all j b h) ∙ without-none (drop i a))
    ended
    in ap (λ l. out ++ l) (sym rest) ∙ was.adds

pub join_end : (out a b : List ℕ) (i j : ℕ) → IsMerging join_of out a b i j → (length a ≤ i) ⊎ (length b ≤ j) → out ++ drop i a ++ drop j b ≡ join_of a b
join_end out a b i j was ended =
    let rest : join_of (drop i a) (drop j b) ≡ drop i a ++ drop j b =
    ⊎_elim
    (λ h. ap (λ xs. join_of xs (drop j b)) (drop_all i a h) ∙ ap (λ xs. xs ++ drop j b) (sym (drop_all i a h)))
    (λ h. ap (λ ys. join_of (drop i a) ys) (drop_all j b h) ∙ join-none 0 (drop i a) was.first
    ∙ sym (append-nil (drop i a)) ∙ ap (λ ys. drop i a ++ ys) (sym (drop_all j b h)))
    ended
    in append_assoc out (drop i a) (drop j b) ∙ ap (λ l. out ++ l) (sym rest) ∙ was.adds
