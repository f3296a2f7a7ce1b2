-- What a page cache holds of a store stays true: of an empty one, as frames are added, and as bytes of the
-- frames are given to it.
use Rattle.std.proofs.Common.{◌≡◌, inl, inr, ⊎_elim, ℕ, ◌+◌, ◌≤◌, Bool, true, false, cond, List, ◌++◌, length, take, drop, Some, None, refl, sym, ap}
use Rattle.std.proofs.Common.{subst, ◌∙◌, length-append, arith}
use Rattle.std.specs.Prelude.{◌⊎◌}
use Rattle.std.specs.Ordering.{eq_by_cmp, is_eq, nat_cmp, ordering_then}
use Rattle.std.specs.declared.cmp.Ordering.{Ordering}
use Rattle.std.specs.declared.cmp.Ordering.TheVariants.{Less, Equal, Greater}
use Rattle.std.specs.FinMap as map
use Rattle.std.proofs.lemmas.List.{drop-append-le, take-append-le, length-drop, length-take-le}
use Rattle.std.proofs.lemmas.List.Concat.{flat_map-append}
use Rattle.ax_disk.specs.declared.extent.Extent.{Extent}
use Rattle.ax_frame.specs.LogFrame.{open_frame}
use Rattle.ax_pages.specs.Area.{frames_bytes}
use Rattle.ax_cache.specs.declared.part_key.PartKey.{PartKey}
use Rattle.ax_cache.specs.Pages.{CachedPages, key_cmp, IsPut, IsPutWithin, is_full_for}
use Rattle.ax_cache.specs.PageLaws.{key_cmp_total}
use Rattle.ax_store.specs.Cached.{HasBytesAt, HoldsParts, key_of}
use Rattle.ax_store.specs.Reading.{IsKept}

no_some : {A : Type 0} (x : A) → None ≡ Some x → ⊥
no_some x e = cc

some_is : {A : Type 0} (x y : A) → Some x ≡ Some y → x ≡ y
some_is x y e = cc

-- an empty cache holds nothing
pub none_held : (pages : CachedPages) (area : Extent) (generation : ℕ) (text : List ℕ) → pages ≡ map.empty → HoldsParts pages area generation text
none_held pages area generation text empty = record {
  each = λ offset bytes held.
      absurd (no_some bytes (sym (map.get-empty key_cmp (key_of area generation offset))
      ∙ ap (λ (m : CachedPages). map.get m (key_of area generation offset)) (sym empty) ∙ held));
}

-- what stands in a text stands there still with more behind it
more_behind : (text more : List ℕ) (offset : ℕ) (bytes : List ℕ) → HasBytesAt text offset bytes → HasBytesAt (text ++ more) offset bytes
more_behind text more offset bytes has = record {
  within = omega (arith, has.within, length-append text more);
  is = ap (take (length bytes)) (drop-append-le offset text more (omega (arith, has.within)))
      ∙ take-append-le (length bytes) (drop offset text) more (omega (arith, has.within, length-drop offset text))
      ∙ has.is;
}

pub held_on : (pages : CachedPages) (area : Extent) (generation : ℕ) (frames more : List (List ℕ))
    → HoldsParts pages area generation (frames_bytes frames) → HoldsParts pages area generation (frames_bytes (frames ++ more))
held_on pages area generation frames more holds = record {
  each = λ offset bytes held.
      subst (λ text. HasBytesAt text offset bytes) (sym (flat_map-append open_frame frames more))
      (more_behind (frames_bytes frames) (frames_bytes more) offset bytes (holds.each offset bytes held));
}

-- ---- a put

first_equal : (r s : Ordering) → is_eq (ordering_then r s) ≡ true → r ≡ Equal
first_equal Less s e = absurd cc
first_equal Equal s e = refl
first_equal Greater s e = absurd cc

then_equal : (r s : Ordering) → is_eq (ordering_then r s) ≡ true → is_eq s ≡ true
then_equal Less s e = absurd cc
then_equal Equal s e = e
then_equal Greater s e = absurd cc

equal : (r : Ordering) → is_eq r ≡ true → r ≡ Equal
equal Less e = absurd cc
equal Equal e = refl
equal Greater e = absurd cc

same_key : (a b : PartKey) → eq_by_cmp key_cmp a b ≡ true → a ≡ b
same_key a b is =
    let area = nat_cmp a.area b.area in
    let generation = nat_cmp a.generation b.generation in
    let offset = nat_cmp a.offset b.offset in
    let behind = then_equal area (ordering_then generation offset) is in
    let x = map.nat_cmp-IsAntisymmetric a.area b.area (first_equal area (ordering_then generation offset) is) in
    let y = map.nat_cmp-IsAntisymmetric a.generation b.generation (first_equal generation offset behind) in
    let z = map.nat_cmp-IsAntisymmetric a.offset b.offset (equal offset (then_equal generation offset behind)) in
    λ i. record { area = x i; generation = y i; offset = z i }

inserted : (old : CachedPages) (key other : PartKey) (bytes held : List ℕ) → map.get (map.insert old key bytes) other ≡ Some held
    → (map.get old other ≡ Some held) ⊎ ((other ≡ key) × (held ≡ bytes))
inserted old key other bytes held e = either (eq_by_cmp key_cmp other key) (same_key other key) (sym (map.get-insert key_cmp_total old key bytes other) ∙ e)
  where
    either : (b : Bool) → (b ≡ true → other ≡ key) → cond b (Some bytes) (map.get old other) ≡ Some held
        → (map.get old other ≡ Some held) ⊎ ((other ≡ key) × (held ≡ bytes))
    either true same e = inr (same refl, sym (some_is bytes held e))
    either false same e = inl e

removed : (old : CachedPages) (key other : PartKey) (held : List ℕ) → map.get (map.remove old key) other ≡ Some held → map.get old other ≡ Some held
removed old key other held e = either (eq_by_cmp key_cmp other key) (sym (map.get-remove key_cmp_total old key other) ∙ e)
  where
    either : (b : Bool) → cond b None (map.get old other) ≡ Some held → map.get old other ≡ Some held
    either true e = absurd (no_some held e)
    either false e = e

kept_put : (full : Bool) (key : PartKey) (bytes : List ℕ) (old new : CachedPages) → IsPut full key bytes old new → IsKept key bytes old new
kept_put false key bytes old new put = record {
  each = λ other held e. inserted old key other bytes held (sym (ap (λ (m : CachedPages). map.get m other) put) ∙ e);
}
kept_put true key bytes old new (dropped, there, put) = record {
  each = λ other held e.
      ⊎_elim (λ (was : map.get (map.remove old dropped) other ≡ Some held). inl (removed old dropped other held was))
      (λ (is : (other ≡ key) × (held ≡ bytes)). inr is)
      (inserted (map.remove old dropped) key other bytes held (sym (ap (λ (m : CachedPages). map.get m other) put) ∙ e));
}

-- whatever the cache answers
pub kept : (put : Bool) (room : ℕ) (key : PartKey) (bytes : List ℕ) (old new : CachedPages)
    → (put ≡ true → IsPutWithin room key bytes old new) → (put ≡ false → new ≡ map.remove old key) → IsKept key bytes old new
kept true room key bytes old new put refused = kept_put (is_full_for room key old) key bytes old new (put refl)
kept false room key bytes old new put refused = record {
  each = λ other held e. inl (removed old key other held (sym (ap (λ (m : CachedPages). map.get m other) (refused refl)) ∙ e));
}

held_now : (old new : CachedPages) (area : Extent) (generation from : ℕ) (text bytes : List ℕ) → IsKept (key_of area generation from) bytes old new
    → HoldsParts old area generation text → from + length bytes ≤ length text → bytes ≡ take (length bytes) (drop from text)
    → HoldsParts new area generation text
held_now old new area generation from text bytes kept holds within is = record {
  each = λ offset held e.
      ⊎_elim (λ (was : map.get old (key_of area generation offset) ≡ Some held). holds.each offset held was)
      (λ (new : (key_of area generation offset ≡ key_of area generation from) × (held ≡ bytes)).
      subst (HasBytesAt text offset) (sym new.1)
      (subst (λ n. HasBytesAt text n bytes) (sym (ap (λ (key : PartKey). key.offset) new.0)) (record { within = within; is = sym is })))
      (kept.each (key_of area generation offset) held e);
}

-- the cache holds bytes of the frames still
pub held_read : (old new : CachedPages) (area : Extent) (generation from len : ℕ) (text bytes : List ℕ) (key : PartKey)
    → key ≡ key_of area generation from → IsKept key bytes old new
    → HoldsParts old area generation text → from + len ≤ length text → bytes ≡ take len (drop from text) → HoldsParts new area generation text
held_read old new area generation from len text bytes key key_is kept holds few taken =
    let long : length bytes ≡ len = ap length taken ∙ length-take-le len (drop from text) (omega (arith, few, length-drop from text)) in
    held_now old new area generation from text bytes (subst (λ k. IsKept k bytes old new) key_is kept) holds (omega (arith, few, long))
    (taken ∙ ap (λ n. take n (drop from text)) (sym long))
