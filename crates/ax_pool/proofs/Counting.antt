-- How many frames are free and how many are taken.
use Rattle.std.proofs.Common.{◌≡◌, ℕ, suc, ◌+◌, ◌<◌, Bool, true, false, not, cond, List, [], ◌∷◌, length, map, ◌++◌, take, drop, vec_items, All}
use Rattle.std.proofs.Common.{count_by, slice_index_or, slice_set, sym, ap, ◌∙◌, refl, arith, inl, inr}
use Rattle.std.specs.Global.{Vec}
use Rattle.std.proofs.lemmas.List.{get_or_past, map-set, get_or-map, length-map, length-set}
use Rattle.std.proofs.lemmas.List.Sums.{sum_by-cons, sum_by-set}
use Rattle.std.proofs.lemmas.Bool.{cases_lt}
use Rattle.std.specs.Vec.{with_items}
use Rattle.ax_pool.specs.Frames.{written_over}

true_or_false : true ≡ false → ⊥
true_or_false e = cc

abbrev count : Bool → ℕ
count taken = cond (not taken) 1 0

pub free_within : (taken : List Bool) (i : ℕ) → slice_index_or taken i true ≡ false → i < length taken
free_within taken i free = elim (cases_lt i (length taken)) [
  | inl lt ↦ lt
  | inr le ↦ absurd (true_or_false (sym (get_or_past taken i true le) ∙ free))
]

pub taken_within : (taken : List Bool) (i : ℕ) → slice_index_or taken i false ≡ true → i < length taken
taken_within taken i is = elim (cases_lt i (length taken)) [
  | inl lt ↦ lt
  | inr le ↦ absurd (true_or_false (sym is ∙ get_or_past taken i false le))
]

pub one_less_free : (taken : List Bool) (i : ℕ) → slice_index_or taken i true ≡ false → count_by not taken ≡ count_by not (slice_set taken i true) + 1
one_less_free taken i free =
    omega (arith, sum_by-set (λ t. cond (not t) 1 0) taken i true true (free_within taken i free), ap count free)

pub one_more_free : (taken : List Bool) (i : ℕ) → slice_index_or taken i false ≡ true → count_by not (slice_set taken i false) ≡ count_by not taken + 1
one_more_free taken i is =
    omega (arith, sum_by-set (λ t. cond (not t) 1 0) taken i false false (taken_within taken i is), ap count is)

pub counts_add_up : (taken : List Bool) → count_by not taken + count_by (λ t. t) taken ≡ length taken
counts_add_up [] = refl
counts_add_up (true ∷ taken) = omega (arith, counts_add_up taken, sum_by-cons (λ t. cond (not t) 1 0) true taken, sum_by-cons (λ t. cond t 1 0) true taken)
counts_add_up (false ∷ taken) = omega (arith, counts_add_up taken, sum_by-cons (λ t. cond (not t) 1 0) false taken, sum_by-cons (λ t. cond t 1 0) false taken)

all_of_rest : (t : Bool) (taken : List Bool) → All (λ t. t ≡ true) (t ∷ taken) → All (λ t. t ≡ true) taken
all_of_rest t taken all k d lt = all (suc k) d (omega (arith, lt))

pub none_free : (taken : List Bool) → All (λ t. t ≡ true) taken → count_by not taken ≡ 0
none_free [] all = refl
none_free (true ∷ taken) all = omega (arith, none_free taken (all_of_rest true taken all), sum_by-cons (λ t. cond (not t) 1 0) true taken)
none_free (false ∷ taken) all = absurd (true_or_false (sym (all 0 false (omega arith))))

module _ (frames : List (Vec ℕ)) where
  abbrev pub shown : List (List ℕ)
  shown = map (λ (frame : Vec ℕ). frame.items) frames

  pub all_add_up : (taken : List Bool) → length frames ≡ length taken → count_by not taken + count_by (λ t. t) taken ≡ length shown
  all_add_up taken same = counts_add_up taken ∙ sym same ∙ sym (length-map frames (λ (frame : Vec ℕ). frame.items))

  pub all_add_up_set : (taken : List Bool) (i : ℕ) (t : Bool) → length frames ≡ length taken
      → count_by not (slice_set taken i t) + count_by (λ t. t) (slice_set taken i t) ≡ length shown
  all_add_up_set taken i t same = all_add_up (slice_set taken i t) (same ∙ sym (length-set taken i t))

  pub number_within : (taken : List Bool) (i : ℕ) → length frames ≡ length taken → slice_index_or taken i false ≡ true → i < length frames
  number_within taken i same is = omega (arith, same, taken_within taken i is)

  -- a frame's bytes are what is shown of it
  pub shown_at : (i : ℕ) (d : Vec ℕ) → i < length frames → slice_index_or shown i [] ≡ vec_items (slice_index_or frames i d)
  shown_at i d lt = get_or-map (λ (frame : Vec ℕ). frame.items) frames i d [] lt

  pub shown_written : (i : ℕ) (frame : Vec ℕ) (w : List ℕ) → slice_index_or shown i [] ≡ frame.items
      → map (λ (frame : Vec ℕ). frame.items) (slice_set frames i (with_items frame w)) ≡ slice_set shown i (written_over w (slice_index_or shown i []))
  shown_written i frame w is =
      map-set (λ (frame : Vec ℕ). frame.items) frames i (with_items frame w)
      ∙ ap (λ n. slice_set shown i (take n (w ++ drop (length w) frame.items))) frame.ok.0
      ∙ ap (λ bytes. slice_set shown i (written_over w bytes)) (sym is)
