-- The rows of term pages after one of them changed, or after one more.
use Rattle.std.proofs.Common.{◌≡◌, ℕ, ◌+◌, ◌<◌, ◌≤◌, List, [], ◌∷◌, ◌++◌, length, map, get_or, set, Bool, true, refl, sym, ap, subst, ◌∙◌, arith, ◌⊎◌}
use Rattle.std.proofs.Common.{inl, inr, ◌==◌, Result}
use Rattle.std.specs.Prelude.{if◌then◌else◌}
use Rattle.std.specs.List.{insert}
use Rattle.std.specs.Result.{OnOk}
use Rattle.std.proofs.lemmas.Result.{on_ok_weaker}
use Rattle.std.proofs.lemmas.Bool.{cases_eq, lt-ltb, eq-eqb}
use Rattle.std.proofs.Math.Seq.{map-set_same}
use Rattle.std.proofs.lemmas.List.{get_or-map, get_or-set_same, get_or-set_other, length-map, map-append, map-set}
use Rattle.ax_pages.specs.AfterPart.{is_base, low_at_front, with_base, with_delta, after_base, after_delta}
use Rattle.ax_pages.specs.Contents.{TermPage, no_term_page, term_page}
use Rattle.ax_store.specs.declared.term_row.TermRow.{TermRow}
use Rattle.ax_store.specs.Kept.{with_base_at, with_delta_at}
use Rattle.ax_store.specs.TermRows.{page_in, offsets_in, room_in, IsOrderOf, IsCountUpTo}
use Rattle.ax_store.proofs.TermBases.{first_base, order_with_base, order_with_delta, order_with_page}

-- where a base takes the place of what was there
base_there : (key : ℕ) (payload : List ℕ) (pages : List TermPage) → key < length pages → after_base key payload pages ≡ set pages key (with_base payload)
base_there key payload pages h =
    ap (λ (b : Bool). if b then set pages key (with_base payload) else pages ++ with_base payload ∷ []) (lt-ltb key (length pages) h)

base_at_there : (key at : ℕ) (offsets : List (List ℕ)) → key < length offsets → with_base_at key at offsets ≡ set offsets key (at ∷ [])
base_at_there key at offsets h =
    ap (λ (b : Bool). if b then set offsets key (at ∷ []) else offsets ++ (at ∷ []) ∷ []) (lt-ltb key (length offsets) h)

module _ (rows : List TermRow) (key : ℕ) (old row : TermRow) (there : key < length rows) (was : old ≡ get_or rows key old) where
  shown : {X : Type 0} (f : TermRow → X) (d : X) → get_or (map f rows) key d ≡ f old
  shown f d = get_or-map f rows key old d there ∙ ap f (sym was)

  within : {X : Type 0} (f : TermRow → X) (xs : List X) → map f rows ≡ xs → key < length xs
  within f xs known = omega (arith, there, ap length known, length-map rows f)

  set_shown : {X : Type 0} (f : TermRow → X) (x : X) (xs : List X) → map f rows ≡ xs → f row ≡ x → map f (set rows key row) ≡ set xs key x
  set_shown f x xs known e = map-set f rows key row ∙ ap (set (map f rows) key) e ∙ ap (λ ys. set ys key x) known

  pub same_shown : {X : Type 0} (f : TermRow → X) (xs : List X) → map f rows ≡ xs → f row ≡ f old → map f (set rows key row) ≡ xs
  same_shown f xs known e = map-set_same f rows key row old (e ∙ ap f was) ∙ known

  -- ---- a base

  pub based_order : (order payload : List ℕ) (pages : List TermPage) → IsOrderOf order (map page_in rows) → map page_in rows ≡ pages
      → is_base key payload pages ≡ true → page_in row ≡ with_base payload → IsOrderOf order (map page_in (set rows key row))
  based_order order payload pages is known base e =
      subst (IsOrderOf order) (sym (set_shown page_in (with_base payload) pages known e))
      (order_with_base order pages key payload (subst (IsOrderOf order) known is) (within page_in pages known) base)

  pub based_pages : (payload : List ℕ) (pages : List TermPage) → map page_in rows ≡ pages → page_in row ≡ with_base payload
      → map page_in (set rows key row) ≡ after_base key payload pages
  based_pages payload pages known e =
      set_shown page_in (with_base payload) pages known e ∙ sym (base_there key payload pages (within page_in pages known))

  pub based_offsets : (at : ℕ) (offsets : List (List ℕ)) → map offsets_in rows ≡ offsets → offsets_in row ≡ at ∷ []
      → map offsets_in (set rows key row) ≡ with_base_at key at offsets
  based_offsets at offsets known e =
      set_shown offsets_in (at ∷ []) offsets known e ∙ sym (base_at_there key at offsets (within offsets_in offsets known))

  -- ---- a delta

  page_is : (pages : List TermPage) → map page_in rows ≡ pages → page_in old ≡ term_page key pages
  page_is pages known = sym (shown page_in no_term_page) ∙ ap (term_page key) known

  pub changed_pages : (payload : List ℕ) (pages : List TermPage) → map page_in rows ≡ pages → page_in row ≡ with_delta payload (page_in old)
      → map page_in (set rows key row) ≡ after_delta key payload pages
  changed_pages payload pages known e =
      set_shown page_in (with_delta payload (term_page key pages)) pages known (e ∙ ap (with_delta payload) (page_is pages known))

  pub changed_order : (order payload : List ℕ) (pages : List TermPage) → IsOrderOf order (map page_in rows) → map page_in rows ≡ pages
      → page_in row ≡ with_delta payload (page_in old) → IsOrderOf order (map page_in (set rows key row))
  changed_order order payload pages is known e =
      subst (IsOrderOf order) (sym (changed_pages payload pages known e))
      (order_with_delta order pages key payload (subst (IsOrderOf order) known is) (within page_in pages known))

  pub changed_offsets : (at : ℕ) (offsets : List (List ℕ)) → map offsets_in rows ≡ offsets → offsets_in row ≡ offsets_in old ++ at ∷ []
      → map offsets_in (set rows key row) ≡ with_delta_at key at offsets
  changed_offsets at offsets known e =
      set_shown offsets_in (get_or offsets key [] ++ at ∷ []) offsets known
      (e ∙ ap (λ (there : List ℕ). there ++ at ∷ []) (sym (shown offsets_in []) ∙ ap (λ (all : List (List ℕ)). get_or all key []) known))

  -- ---- the room

  room_here : get_or (map room_in (set rows key row)) key 0 ≡ room_in row
  room_here =
      ap (λ (rooms : List ℕ). get_or rooms key 0) (map-set room_in rows key row)
      ∙ get_or-set_same (map room_in rows) key (room_in row) 0 (within room_in (map room_in rows) refl)

  room_there : (page : ℕ) → (page ≡ key → ⊥) → get_or (map room_in (set rows key row)) page 0 ≡ get_or (map room_in rows) page 0
  room_there page apart =
      ap (λ (rooms : List ℕ). get_or rooms page 0) (map-set room_in rows key row) ∙ get_or-set_other (map room_in rows) key page (room_in row) 0 apart

  -- of a row that has so much less room the number has no more less
  room_by : (less : ℕ → ℕ) (rooms : List ℕ) → map room_in rows ≡ rooms → room_in old ≤ room_in row + less key
      → (page : ℕ) → (page ≡ key) ⊎ (page ≡ key → ⊥) → get_or rooms page 0 ≤ get_or (map room_in (set rows key row)) page 0 + less page
  room_by less rooms known le page (inl same) =
      let at_key : get_or rooms key 0 ≤ get_or (map room_in (set rows key row)) key 0 + less key =
      omega (arith, ap (λ (all : List ℕ). get_or all key 0) known, shown room_in 0, room_here, le)
      in
      subst (λ (page : ℕ). get_or rooms page 0 ≤ get_or (map room_in (set rows key row)) page 0 + less page) (sym same) at_key
  room_by less rooms known le page (inr apart) = omega (arith, ap (λ (all : List ℕ). get_or all page 0) known, room_there page apart)

  pub room_grown : (rooms : List ℕ) → map room_in rows ≡ rooms → room_in old ≤ room_in row
      → (page : ℕ) → get_or rooms page 0 ≤ get_or (map room_in (set rows key row)) page 0
  room_grown rooms known le page =
      let grown : get_or rooms page 0 ≤ get_or (map room_in (set rows key row)) page 0 + 0 =
      room_by (λ page. 0) rooms known (omega (arith, le)) page (cases_eq page key)
      in omega (arith, grown)

  pub room_used : (rooms : List ℕ) → map room_in rows ≡ rooms → room_in old ≡ room_in row + 1
      → (page : ℕ) → get_or rooms page 0 ≤ get_or (map room_in (set rows key row)) page 0 + (if key == page then 1 else 0)
  room_used rooms known one page =
      room_by (λ page. if key == page then 1 else 0) rooms known
      (omega (arith, one, ap {B = ℕ} (λ (b : Bool). if b then 1 else 0) (eq-eqb key key refl))) page (cases_eq page key)

  pub room_made : {T E : Type 0} (result : Result T E) (more : ℕ) (P : Type 0) → OnOk result (more ≤ room_in row)
      → OnOk result (P → more ≤ get_or (map room_in (set rows key row)) key 0)
  room_made result more P given = on_ok_weaker result (λ (le : more ≤ room_in row) (there : P). omega (arith, le, room_here)) given

-- ---- a new page

pub page_put : (order : List ℕ) (rows : List TermRow) (pages : List TermPage) (page at : ℕ) (payload : List ℕ) (row : TermRow)
    (order_now : List ℕ) (rows_now : List TermRow)
    → IsOrderOf order (map page_in rows) → map page_in rows ≡ pages → is_base (length pages) payload pages ≡ true
    → IsCountUpTo (low_at_front payload) at order (map page_in rows) → page ≡ length pages → page_in row ≡ with_base payload
    → order_now ≡ insert order at page → rows_now ≡ rows ++ row ∷ [] → IsOrderOf order_now (map page_in rows_now)
page_put order rows pages page at payload row order_now rows_now is known base place last based ordered pushed =
    let pages_now : map page_in rows_now ≡ pages ++ with_base payload ∷ [] =
    ap (map page_in) pushed ∙ map-append page_in rows (row ∷ []) ∙ ap (λ (page : TermPage). map page_in rows ++ page ∷ []) based
    ∙ ap (λ (all : List TermPage). all ++ with_base payload ∷ []) known
    in
    let put : IsOrderOf (insert order at (length pages)) (pages ++ with_base payload ∷ []) =
    order_with_page order pages at payload (subst (IsOrderOf order) known is) (first_base (length pages) payload pages (omega arith) base).1
    (subst (IsCountUpTo (low_at_front payload) at order) known place)
    in
    subst (λ (order : List ℕ). IsOrderOf order (map page_in rows_now)) (sym (ordered ∙ ap (insert order at) last))
    (subst (IsOrderOf (insert order at (length pages))) (sym pages_now) put)

pub row_there : (rows : List TermRow) (key : ℕ) (pages : List TermPage) → map page_in rows ≡ pages → key < length pages → key < length rows
row_there rows key pages known h = omega (arith, h, ap length known, length-map rows page_in)

pub order_still : (order : List ℕ) (rows : List TermRow) (key : ℕ) (old row : TermRow) → key < length rows → old ≡ get_or rows key old
    → IsOrderOf order (map page_in rows) → page_in row ≡ page_in old → IsOrderOf order (map page_in (set rows key row))
order_still order rows key old row there was is e =
    subst (IsOrderOf order) (sym (same_shown rows key old row there was page_in (map page_in rows) refl e)) is
