-- What the map by last use does to the pages that it holds.
use Rattle.std.proofs.Common.{◌≡◌, ℕ, suc, ◌+◌, ◌-◌, ◌<◌, ◌≤◌, Bool, true, false, cond, List, [], ◌∷◌, ◌++◌, length, take, map, Option, Some, None}
use Rattle.std.proofs.Common.{option_map, is_some, Result, Ok, Err, OnOk, OnErr, is_ok, refl, sym, ap, subst, ◌∙◌, arith, length-append}
use Rattle.std.specs.Prelude.{IsSome, IsOk, nat_le, ◌==◌, not, ◌&&◌}
use Rattle.std.specs.Cmp.{eq_by_cmp_equiv, nat_cmp_total, nat_eq_equiv}
use Rattle.std.specs.Option.{option_map_or}
use Rattle.std.proofs.lemmas.Bool.{eqb-true}
use Rattle.lru.specs.LruCache.{LruCache, lru_cache, IsValid, promoted, put_entries}
use Rattle.ax_cache.specs.contracts.part_key.PartKeyPartialEq.TheImpl as TheImpl
use Rattle.std.specs.Ordering.{eq_by_cmp, is_eq, nat_cmp, ordering_then}
use Rattle.std.specs.declared.cmp.Ordering.{Ordering}
use Rattle.std.specs.declared.cmp.Ordering.TheVariants.{Less, Equal, Greater}
use Rattle.std.specs.FinMap as finite
use Rattle.std.specs.List.{IsDistinct, AllByRecursion}
use Rattle.std.specs.Map.{keys_of, lookup, lookup_entry, remove_entry}
use Rattle.std.proofs.lemmas.List.{take_all, take_at, length-take}
use Rattle.lru.proofs.CallerLemmas.{Contains-lookup_entry}
use Rattle.ax_cache.specs.Pages.{CachedPages, key_cmp, IsPut, IsPutWithin, is_full_for}
use Rattle.ax_cache.specs.PageLaws.{key_cmp_total}
use Rattle.ax_cache.specs.declared.part_key.PartKey.{PartKey}
use Rattle.ax_cache.specs.Lru.{entry_in, pages_of}

first_equal : (r s : Ordering) → is_eq (ordering_then r s) ≡ true → r ≡ Equal
first_equal Less s e = absurd cc
first_equal Equal s e = refl
first_equal Greater s e = absurd cc

then_equal : (r s : Ordering) → is_eq (ordering_then r s) ≡ true → is_eq s ≡ true
then_equal Less s e = absurd cc
then_equal Equal s e = e
then_equal Greater s e = absurd cc

equal : (r : Ordering) → is_eq r ≡ true → r ≡ Equal
equal Less e = absurd cc
equal Equal e = refl
equal Greater e = absurd cc

key_at_once : (r : Ordering) → r ≡ Equal → is_eq r ≡ true
key_at_once r e = ap is_eq e

pub one_key : finite.IsAntisymmetric key_cmp
one_key a b is =
    let area = nat_cmp a.area b.area in
    let generation = nat_cmp a.generation b.generation in
    let offset = nat_cmp a.offset b.offset in
    let whole = key_at_once (key_cmp a b) is in
    let behind = then_equal area (ordering_then generation offset) whole in
    let x = finite.nat_cmp-IsAntisymmetric a.area b.area (first_equal area (ordering_then generation offset) whole) in
    let y = finite.nat_cmp-IsAntisymmetric a.generation b.generation (first_equal generation offset behind) in
    let z = finite.nat_cmp-IsAntisymmetric a.offset b.offset (equal offset (then_equal generation offset behind)) in
    λ i. record { area = x i; generation = y i; offset = z i }

not_same : (m n : ℕ) → (m == n) ≡ false → m ≡ n → ⊥
not_same m n e same = true_not_false (sym (nat_eq_equiv.refl n) ∙ ap (λ k. k == n) (sym same) ∙ e)
  where
    true_not_false : true ≡ false → ⊥
    true_not_false e = cc

both : (b c : Bool) → (b ≡ true → c ≡ true) → (c ≡ true → b ≡ true) → b ≡ c
both true c f g = sym (f refl)
both false true f g = g refl
both false false f g = refl

test_is : (m n : ℕ) → (m == n) ≡ eq_by_cmp nat_cmp m n
test_is m n =
    both (m == n) (eq_by_cmp nat_cmp m n) (λ e. subst (λ k. eq_by_cmp nat_cmp m k ≡ true) (eqb-true m n e) ((eq_by_cmp_equiv nat_cmp_total).refl m))
    (λ e. subst (λ k. (m == k) ≡ true) (finite.nat_cmp-IsAntisymmetric m n (equal (nat_cmp m n) e)) (nat_eq_equiv.refl m))

and_then : (r s : Ordering) → (is_eq r && is_eq s) ≡ is_eq (ordering_then r s)
and_then Less s = refl
and_then Equal s = refl
and_then Greater s = refl

abbrev pub place_eq : PartKey → PartKey → Bool
place_eq = (TheImpl.ghosts).eq

pub place_test : (a b : PartKey) → place_eq a b ≡ eq_by_cmp key_cmp a b
place_test a b =
    let area = nat_cmp a.area b.area in
    let generation = nat_cmp a.generation b.generation in
    let offset = nat_cmp a.offset b.offset in
    ap (λ t. t && ((a.generation == b.generation) && (a.offset == b.offset))) (test_is a.area b.area)
    ∙ ap (λ t. is_eq area && (t && (a.offset == b.offset))) (test_is a.generation b.generation)
    ∙ ap (λ t. is_eq area && (is_eq generation && t)) (test_is a.offset b.offset)
    ∙ ap (λ t. is_eq area && t) (and_then generation offset)
    ∙ and_then area (ordering_then generation offset)

module _ {V : Type 0} (shown : V → List ℕ) (eq : PartKey → PartKey → Bool) (same : (a b : PartKey) → eq a b ≡ eq_by_cmp key_cmp a b) where
  pub place_is : (a b : PartKey) → eq a b ≡ true → a ≡ b
  place_is a b e = one_key a b (equal (key_cmp a b) (sym (same a b) ∙ e))

  turned : (a b : PartKey) → eq a b ≡ eq b a
  turned a b = same a b ∙ (eq_by_cmp_equiv key_cmp_total).symm a b ∙ sym (same b a)

  through : (b : Bool) (v : V) (o : Option V) → cond b (Some (shown v)) (option_map shown o) ≡ option_map shown (cond b (Some v) o)
  through true v o = refl
  through false v o = refl

  pub found : (es : List (PartKey × V)) (q : PartKey) → finite.get (pages_of shown es) q ≡ option_map shown (lookup (eq q) es)
  found [] q = finite.get-empty key_cmp q
  found (e ∷ es) q =
      finite.get-insert key_cmp_total (pages_of shown es) e.0 (shown e.1) q
      ∙ ap (λ b. cond b (Some (shown e.1)) (finite.get (pages_of shown es) q)) (sym (same q e.0))
      ∙ ap (cond (eq q e.0) (Some (shown e.1))) (found es q)
      ∙ through (eq q e.0) e.1 (lookup (eq q) es)

  -- ---- an entry taken out

  others_stay : (j k : PartKey) (es : List (PartKey × V)) → eq j k ≡ false → lookup (eq j) (remove_entry (eq k) es) ≡ lookup (eq j) es
  others_stay j k [] apart = refl
  others_stay j k (e ∷ es) apart = either (eq k e.0) refl (others_stay j k es apart)
    where
      either : (b : Bool) → eq k e.0 ≡ b → lookup (eq j) (remove_entry (eq k) es) ≡ lookup (eq j) es
          → lookup (eq j) (cond b es (e ∷ remove_entry (eq k) es)) ≡ lookup (eq j) (e ∷ es)
      either true is more = sym (ap (λ b. cond b (Some e.1) (lookup (eq j) es)) (sym (ap (eq j) (place_is k e.0 is)) ∙ apart))
      either false is more = ap (cond (eq j e.0) (Some e.1)) more

  -- ---- a key that is there

  pub updated : (es : List (PartKey × V)) (k : PartKey) (v : V) (e : PartKey × V) → lookup_entry (eq k) es ≡ Some e
      → pages_of shown ((e.0, v) ∷ remove_entry (eq k) es) ≡ finite.insert (pages_of shown es) k (shown v)
  updated es k v e is = finite.same_map key_cmp_total one_key _ _
      (λ q. found ((e.0, v) ∷ remove_entry (eq k) es) q ∙ at_each q ∙ sym (finite.get-insert key_cmp_total (pages_of shown es) k (shown v) q))
    where
      there : k ≡ e.0
      there = place_is k e.0 (Contains-lookup_entry (eq k) es e is).1

      either : (j : PartKey) (b : Bool) → eq j k ≡ b → option_map shown (cond (eq j e.0) (Some v) (lookup (eq j) (remove_entry (eq k) es)))
          ≡ cond b (Some (shown v)) (option_map shown (lookup (eq j) es))
      either j true b = ap (λ t. option_map shown (cond t (Some v) (lookup (eq j) (remove_entry (eq k) es)))) (sym (ap (eq j) there) ∙ b)
      either j false b =
          ap (λ t. option_map shown (cond t (Some v) (lookup (eq j) (remove_entry (eq k) es)))) (sym (ap (eq j) there) ∙ b)
          ∙ ap (option_map shown) (others_stay j k es b)

      at_each : (q : PartKey) → option_map shown (lookup (eq q) ((e.0, v) ∷ remove_entry (eq k) es))
          ≡ cond (eq_by_cmp key_cmp q k) (Some (shown v)) (finite.get (pages_of shown es) q)
      at_each q =
          either q (eq q k) refl
          ∙ ap (λ b. cond b (Some (shown v)) (option_map shown (lookup (eq q) es))) (same q k)
          ∙ ap (cond (eq_by_cmp key_cmp q k) (Some (shown v))) (sym (found es q))

  -- ---- how many

  none_first : (x : PartKey) (es : List (PartKey × V)) → AllByRecursion (λ y. eq x y ≡ false) (keys_of es) → lookup (eq x) es ≡ None
  none_first x [] all = refl
  none_first x (e ∷ es) all = ap (λ b. cond b (Some e.1) (lookup (eq x) es)) all.0 ∙ none_first x es all.1

  pub counted : (es : List (PartKey × V)) → IsDistinct eq (keys_of es) → finite.len (pages_of shown es) ≡ length es
  unfolding IsDistinct
  counted [] distinct = finite.len-empty key_cmp (List ℕ)
  counted (e ∷ es) distinct =
      let step : finite.len (pages_of shown (e ∷ es)) ≡ finite.len (pages_of shown es) + 1 =
      finite.len-insert key_cmp_total (pages_of shown es) e.0 (shown e.1)
      ∙ ap (λ b. cond b (finite.len (pages_of shown es)) (finite.len (pages_of shown es) + 1))
      (ap is_some (found es e.0 ∙ ap (option_map shown) (none_first e.0 es distinct.0))) in
      omega (arith, step, counted es distinct.1)

  -- ---- the last one goes

  none_before : (es : List (PartKey × V)) (e : PartKey × V) → IsDistinct eq (keys_of (es ++ e ∷ [])) → lookup (eq e.0) es ≡ None
  unfolding IsDistinct
  none_before [] e distinct = refl
  none_before (x ∷ es) e distinct =
      ap (λ b. cond b (Some x.1) (lookup (eq e.0) es)) (turned e.0 x.0 ∙ last_apart es distinct.0) ∙ none_before es e distinct.1
    where
      last_apart : (es : List (PartKey × V)) → AllByRecursion (λ y. eq x.0 y ≡ false) (keys_of (es ++ e ∷ [])) → eq x.0 e.0 ≡ false
      last_apart [] all = all.0
      last_apart (y ∷ es) all = last_apart es all.1

  last_behind : (j : PartKey) (es : List (PartKey × V)) (e : PartKey × V) → eq j e.0 ≡ false → lookup (eq j) (es ++ e ∷ []) ≡ lookup (eq j) es
  last_behind j [] e apart = ap (λ b. cond b (Some e.1) None) apart
  last_behind j (x ∷ es) e apart = ap (cond (eq j x.0) (Some x.1)) (last_behind j es e apart)

  last_there : (es : List (PartKey × V)) (e : PartKey × V) → IsDistinct eq (keys_of (es ++ e ∷ [])) → lookup (eq e.0) (es ++ e ∷ []) ≡ Some e.1
  unfolding IsDistinct
  last_there [] e distinct = ap (λ b. cond b (Some e.1) None) (same e.0 e.0 ∙ (eq_by_cmp_equiv key_cmp_total).refl e.0)
  last_there (x ∷ es) e distinct =
      ap (λ b. cond b (Some x.1) (lookup (eq e.0) (es ++ e ∷ []))) (turned e.0 x.0 ∙ last_apart es distinct.0) ∙ last_there es e distinct.1
    where
      last_apart : (es : List (PartKey × V)) → AllByRecursion (λ y. eq x.0 y ≡ false) (keys_of (es ++ e ∷ [])) → eq x.0 e.0 ≡ false
      last_apart [] all = all.0
      last_apart (y ∷ es) all = last_apart es all.1

  pub last_gone : (es : List (PartKey × V)) (e : PartKey × V) → IsDistinct eq (keys_of (es ++ e ∷ []))
      → pages_of shown es ≡ finite.remove (pages_of shown (es ++ e ∷ [])) e.0
  last_gone es e distinct = finite.same_map key_cmp_total one_key _ _
      (λ q. found es q ∙ either q (eq q e.0) refl ∙ sym (finite.get-remove key_cmp_total (pages_of shown (es ++ e ∷ [])) e.0 q ∙ at_each q))
    where
      at_each : (q : PartKey) → cond (eq_by_cmp key_cmp q e.0) None (finite.get (pages_of shown (es ++ e ∷ [])) q)
          ≡ cond (eq q e.0) None (option_map shown (lookup (eq q) (es ++ e ∷ [])))
      at_each q =
          ap (λ b. cond b None (finite.get (pages_of shown (es ++ e ∷ [])) q)) (sym (same q e.0))
          ∙ ap (cond (eq q e.0) None) (found (es ++ e ∷ []) q)

      either : (q : PartKey) (b : Bool) → eq q e.0 ≡ b → option_map shown (lookup (eq q) es)
          ≡ cond (eq q e.0) None (option_map shown (lookup (eq q) (es ++ e ∷ [])))
      either q true is =
          ap (option_map shown) (ap (λ p. lookup (eq p) es) (place_is q e.0 is) ∙ none_before es e distinct)
          ∙ sym (ap (λ b. cond b None (option_map shown (lookup (eq q) (es ++ e ∷ [])))) is)
      either q false is =
          ap (option_map shown) (sym (last_behind q es e is))
          ∙ sym (ap (λ b. cond b None (option_map shown (lookup (eq q) (es ++ e ∷ [])))) is)

  pub last_held : (es : List (PartKey × V)) (e : PartKey × V) → IsDistinct eq (keys_of (es ++ e ∷ []))
      → finite.contains_key (pages_of shown (es ++ e ∷ [])) e.0 ≡ true
  last_held es e distinct = ap is_some (found (es ++ e ∷ []) e.0 ∙ ap (option_map shown) (last_there es e distinct))

  looked_up : (es : List (PartKey × V)) (k : PartKey) → lookup (eq k) es ≡ option_map (λ (e : PartKey × V). e.1) (lookup_entry (eq k) es)
  looked_up [] k = refl
  looked_up (e ∷ es) k = either (eq k e.0) (looked_up es k)
    where
      either : (b : Bool) → lookup (eq k) es ≡ option_map (λ (e : PartKey × V). e.1) (lookup_entry (eq k) es)
          → cond b (Some e.1) (lookup (eq k) es) ≡ option_map (λ (e : PartKey × V). e.1) (cond b (Some e) (lookup_entry (eq k) es))
      either true more = refl
      either false more = more

  -- an insertion of what is there
  insert_same : (m : CachedPages) (k : PartKey) (x : List ℕ) → finite.get m k ≡ Some x → finite.insert m k x ≡ m
  insert_same m k x is = finite.same_map key_cmp_total one_key _ _ (λ q. finite.get-insert key_cmp_total m k x q ∙ either q (eq_by_cmp key_cmp q k) refl)
    where
      either : (q : PartKey) (b : Bool) → eq_by_cmp key_cmp q k ≡ b → cond b (Some x) (finite.get m q) ≡ finite.get m q
      either q true e = sym (ap (finite.get m) (one_key q k (equal (key_cmp q k) e)) ∙ is)
      either q false e = refl

  -- the order does not matter
  pub promoted_same : (es : List (PartKey × V)) (k : PartKey) → pages_of shown (promoted (eq k) es) ≡ pages_of shown es
  promoted_same es k = either (lookup_entry (eq k) es) refl
    where
      either : (o : Option (PartKey × V)) → lookup_entry (eq k) es ≡ o
          → pages_of shown (option_map_or (λ e. e ∷ remove_entry (eq k) es) o es) ≡ pages_of shown es
      either None is = refl
      either (Some e) is =
          updated es k e.1 e is
          ∙ insert_same (pages_of shown es) k (shown e.1) (found es k ∙ ap (option_map shown) (looked_up es k ∙ ap (option_map (λ (f : PartKey × V). f.1)) is))

  -- ---- a key that is taken out

  none_of : (es : List (PartKey × V)) (k : PartKey) → IsDistinct eq (keys_of es) → lookup (eq k) (remove_entry (eq k) es) ≡ None
  unfolding IsDistinct
  none_of [] k distinct = refl
  none_of (e ∷ es) k distinct = either (eq k e.0) refl (none_of es k distinct.1)
    where
      either : (b : Bool) → eq k e.0 ≡ b → lookup (eq k) (remove_entry (eq k) es) ≡ None → lookup (eq k) (cond b es (e ∷ remove_entry (eq k) es)) ≡ None
      either true is more = ap (λ p. lookup (eq p) es) (place_is k e.0 is) ∙ none_first e.0 es distinct.0
      either false is more = ap (λ b. cond b (Some e.1) (lookup (eq k) (remove_entry (eq k) es))) is ∙ more

  pub popped : (es : List (PartKey × V)) (k : PartKey) → IsDistinct eq (keys_of es)
      → pages_of shown (remove_entry (eq k) es) ≡ finite.remove (pages_of shown es) k
  popped es k distinct = finite.same_map key_cmp_total one_key _ _
      (λ q. found (remove_entry (eq k) es) q ∙ either q (eq q k) refl ∙ sym (finite.get-remove key_cmp_total (pages_of shown es) k q ∙ at_each q))
    where
      at_each : (q : PartKey) → cond (eq_by_cmp key_cmp q k) None (finite.get (pages_of shown es) q) ≡ cond (eq q k) None (option_map shown (lookup (eq q) es))
      at_each q = ap (λ b. cond b None (finite.get (pages_of shown es) q)) (sym (same q k)) ∙ ap (cond (eq q k) None) (found es q)

      either : (q : PartKey) (b : Bool) → eq q k ≡ b → option_map shown (lookup (eq q) (remove_entry (eq k) es))
          ≡ cond (eq q k) None (option_map shown (lookup (eq q) es))
      either q true is =
          ap (option_map shown) (ap (λ p. lookup (eq p) (remove_entry (eq k) es)) (place_is q k is) ∙ none_of es k distinct)
          ∙ sym (ap (λ b. cond b None (option_map shown (lookup (eq q) es))) is)
      either q false is =
          ap (option_map shown) (others_stay q k es is)
          ∙ sym (ap (λ b. cond b None (option_map shown (lookup (eq q) es))) is)

  -- ---- a put

  last_of : (es : List (PartKey × V)) → 0 < length es → (init : List (PartKey × V)) × (e : PartKey × V) × (es ≡ init ++ e ∷ [])
  last_of [] some = absurd (omega (arith, some))
  last_of (x ∷ []) some = ([], x, refl)
  last_of (x ∷ y ∷ es) some = let rest = last_of (y ∷ es) (omega arith) in (x ∷ rest.0, rest.1, ap (λ more. x ∷ more) rest.2)

  full_is : (has : Bool) (n room : ℕ) → has ≡ false → (b : Bool) → (n == room) ≡ b → (not has && (n == room)) ≡ b
  full_is has n room absent b e = ap (λ h. not h && (n == room)) absent ∙ e

  no_put : (key : PartKey) (bytes : List ℕ) (old new : CachedPages) (full : Bool) (b : Bool) → full ≡ b → IsPut b key bytes old new
      → IsPut full key bytes old new
  no_put key bytes old new full b e put = subst (λ f. IsPut f key bytes old new) (sym e) put

  pub put_there : (es : List (PartKey × V)) (cap : ℕ) (k : PartKey) (v : V) (e : PartKey × V) → lookup_entry (eq k) es ≡ Some e
      → IsPutWithin cap k (shown v) (pages_of shown es) (pages_of shown ((e.0, v) ∷ remove_entry (eq k) es))
  put_there es cap k v e is =
      no_put k (shown v) (pages_of shown es) (pages_of shown ((e.0, v) ∷ remove_entry (eq k) es)) (is_full_for cap k (pages_of shown es)) false not_full
      (updated es k v e is)
    where
      held : finite.contains_key (pages_of shown es) k ≡ true
      held = ap is_some (found es k ∙ ap (option_map shown) (looked_up es k ∙ ap (option_map (λ (f : PartKey × V). f.1)) is))

      not_full : (not (finite.contains_key (pages_of shown es) k) && (finite.len (pages_of shown es) == cap)) ≡ false
      not_full = ap (λ b. not b && (finite.len (pages_of shown es) == cap)) held

  pub put_new : (es : List (PartKey × V)) (cap : ℕ) (k : PartKey) (v : V) → IsDistinct eq (keys_of es) → length es ≤ cap → 0 < cap
      → lookup_entry (eq k) es ≡ None
      → IsPutWithin cap k (shown v) (pages_of shown es) (pages_of shown ((k, v) ∷ take (cap - 1) es))
  put_new es cap k v distinct few some none = either (length es == cap) refl
    where
      absent : finite.contains_key (pages_of shown es) k ≡ false
      absent = ap is_some (found es k ∙ ap (option_map shown) (looked_up es k ∙ ap (option_map (λ (f : PartKey × V). f.1)) none))

      either : (b : Bool) → (length es == cap) ≡ b → IsPutWithin cap k (shown v) (pages_of shown es) (pages_of shown ((k, v) ∷ take (cap - 1) es))
      either false is =
          no_put k (shown v) (pages_of shown es) (pages_of shown ((k, v) ∷ take (cap - 1) es)) (is_full_for cap k (pages_of shown es)) false
          (full_is (finite.contains_key (pages_of shown es) k) (finite.len (pages_of shown es)) cap absent false
          (ap (λ n. n == cap) (counted es distinct) ∙ is))
          (ap (λ es. finite.insert (pages_of shown es) k (shown v)) (take_all (cap - 1) es (omega (arith, few, not_same (length es) cap is))))
      either true is =
          let last = last_of es (omega (arith, eqb-true (length es) cap is, some)) in
          let init = last.0 in
          let e = last.1 in
          let all : es ≡ init ++ e ∷ [] = last.2 in
          let cut : take (cap - 1) es ≡ init =
          ap (take (cap - 1)) all ∙ take_at init (e ∷ []) (cap - 1) (omega (arith, eqb-true (length es) cap is, ap length all, length-append init (e ∷ []))) in
          let distinct_here : IsDistinct eq (keys_of (init ++ e ∷ [])) = subst (λ es. IsDistinct eq (keys_of es)) all distinct in
          no_put k (shown v) (pages_of shown es) (pages_of shown ((k, v) ∷ take (cap - 1) es)) (is_full_for cap k (pages_of shown es)) true
          (full_is (finite.contains_key (pages_of shown es) k) (finite.len (pages_of shown es)) cap absent true
          (ap (λ n. n == cap) (counted es distinct) ∙ is)) (
            e.0,
            ap (λ es. finite.contains_key (pages_of shown es) e.0) all ∙ last_held init e distinct_here,
            ap (λ es. finite.insert (pages_of shown es) k (shown v)) cut
                ∙ ap (λ m. finite.insert m k (shown v)) (last_gone init e distinct_here ∙ ap (λ es. finite.remove (pages_of shown es) e.0) (sym all)),
          )

  pub put_within : (c : LruCache PartKey V) (k : PartKey) (v : V) → IsDistinct eq (keys_of c.entries) → length c.entries ≤ c.cap → 0 < c.cap
      → IsPutWithin c.cap k (shown v) (pages_of shown c.entries) (pages_of shown (put_entries eq c k v))
  put_within c k v distinct few some = either (lookup_entry (eq k) c.entries) refl
    where
      either : (o : Option (PartKey × V)) → lookup_entry (eq k) c.entries ≡ o
          → IsPutWithin c.cap k (shown v) (pages_of shown c.entries)
          (pages_of shown (option_map_or (λ e. (e.0, v) ∷ remove_entry (eq k) c.entries) o ((k, v) ∷ take (c.cap - 1) c.entries)))
      either None is = put_new c.entries c.cap k v distinct few some is
      either (Some e) is = put_there c.entries c.cap k v e is

  -- what is not there can't be taken out
  pub none_out : (es : List (PartKey × V)) (k : PartKey) → lookup (eq k) es ≡ None → pages_of shown es ≡ finite.remove (pages_of shown es) k
  none_out es k none = finite.same_map key_cmp_total one_key _ _
      (λ q. either q (eq_by_cmp key_cmp q k) refl ∙ sym (finite.get-remove key_cmp_total (pages_of shown es) k q))
    where
      either : (q : PartKey) (b : Bool) → eq_by_cmp key_cmp q k ≡ b → finite.get (pages_of shown es) q ≡ cond b None (finite.get (pages_of shown es) q)
      either q true e = ap (finite.get (pages_of shown es)) (one_key q k (equal (key_cmp q k) e)) ∙ found es k ∙ ap (option_map shown) none
      either q false e = refl

-- ---- lengths

module _ {K V : Type 0} (test : K → Bool) where
  pub removed_few : (es : List (K × V)) → length (remove_entry test es) ≤ length es
  removed_few [] = omega arith
  removed_few (e ∷ es) = either (test e.0) (removed_few es)
    where
      either : (b : Bool) → length (remove_entry test es) ≤ length es → length (cond b es (e ∷ remove_entry test es)) ≤ suc (length es)
      either true more = omega arith
      either false more = omega (arith, more)

  pub removed_one : (es : List (K × V)) (e : K × V) → lookup_entry test es ≡ Some e → length (remove_entry test es) + 1 ≡ length es
  removed_one [] e is = absurd cc
  removed_one (f ∷ es) e is = either (test f.0) (λ more. removed_one es e more) is
    where
      either : (b : Bool) → (lookup_entry test es ≡ Some e → length (remove_entry test es) + 1 ≡ length es) → cond b (Some f) (lookup_entry test es) ≡ Some e
          → length (cond b es (f ∷ remove_entry test es)) + 1 ≡ suc (length es)
      either true more is = omega arith
      either false more is = omega (arith, more is)

  pub promoted_few : (es : List (K × V)) → length (promoted test es) ≤ length es
  promoted_few es = either (lookup_entry test es) refl
    where
      either : (o : Option (K × V)) → lookup_entry test es ≡ o → length (option_map_or (λ e. e ∷ remove_entry test es) o es) ≤ length es
      either None is = omega arith
      either (Some e) is = omega (arith, removed_one es e is)

pub put_few : {K V : Type 0} (eq : K → K → Bool) (c : LruCache K V) (k : K) (v : V) → length c.entries ≤ c.cap → 0 < c.cap
    → length (put_entries eq c k v) ≤ c.cap
put_few {K = K} {V = V} eq c k v few some = either (lookup_entry (eq k) c.entries) refl
  where
    either : (o : Option (K × V)) → lookup_entry (eq k) c.entries ≡ o
        → length (option_map_or (λ e. (e.0, v) ∷ remove_entry (eq k) c.entries) o ((k, v) ∷ take (c.cap - 1) c.entries)) ≤ c.cap
    either None is = omega (arith, length-take (c.cap - 1) c.entries, some)
    either (Some e) is = omega (arith, removed_one (eq k) c.entries e is, few)

-- ---- answers

on_ok : {T E : Type 0} (r : Result T E) (P : Type 0) → is_ok r ≡ true → OnOk r P → P
on_ok (Ok x) P is p = p
on_ok (Err e) P is p = absurd cc

pub put_in : {T E V : Type 0} (shown : V → List ℕ) (r : Result T E) (old new : LruCache PartKey V) (k : PartKey) (v : V) → IsValid place_eq old
    → OnOk r (new ≡ lru_cache (put_entries place_eq old k v) old.cap) → is_ok r ≡ true
    → IsPutWithin old.cap k (shown v) (pages_of shown old.entries) (pages_of shown new.entries)
put_in shown r old new k v (distinct, few, some) put is =
    let same = on_ok r (new ≡ lru_cache (put_entries place_eq old k v) old.cap) is put in
    subst (λ es. IsPutWithin old.cap k (shown v) (pages_of shown old.entries) (pages_of shown es)) (sym (ap (λ (c : LruCache PartKey _). c.entries) same))
    (put_within shown place_eq place_test old k v distinct few some)

pub put_not : {T E V : Type 0} (shown : V → List ℕ) (r : Result T E) (old new : LruCache PartKey V) (k : PartKey) → OnErr r (new ≡ old)
    → (IsSome (lookup (place_eq k) old.entries) → IsOk r) → is_ok r ≡ false
    → pages_of shown new.entries ≡ finite.remove (pages_of shown old.entries) k
put_not shown (Ok x) old new k err there is = absurd cc
put_not shown (Err e) old new k err there is = ap (λ (c : LruCache PartKey _). pages_of shown c.entries) err
    ∙ none_out shown place_eq place_test old.entries k (absent (lookup (place_eq k) old.entries) (λ some. true_or_false (there some)))
  where
    true_or_false : false ≡ true → ⊥
    true_or_false e = cc

    absent : {V : Type 0} (o : Option V) → (IsSome o → ⊥) → o ≡ None
    absent None none = refl
    absent (Some v) none = absurd (none refl)

pub put_keeps : {T E V : Type 0} (r : Result T E) (old new : LruCache PartKey V) (k : PartKey) (v : V) → IsValid place_eq old
    → OnOk r (new ≡ lru_cache (put_entries place_eq old k v) old.cap) → OnErr r (new ≡ old)
    → (length new.entries ≤ new.cap) × (new.cap ≡ old.cap)
put_keeps (Ok x) old new k v (distinct, few, some) ok err =
    (subst (λ (c : LruCache PartKey _). length c.entries ≤ c.cap) (sym ok) (put_few place_eq old k v few some), ap (λ (c : LruCache PartKey _). c.cap) ok)
put_keeps (Err e) old new k v (distinct, few, some) ok err =
    (subst (λ (c : LruCache PartKey _). length c.entries ≤ c.cap) (sym err) few, ap (λ (c : LruCache PartKey _). c.cap) err)
