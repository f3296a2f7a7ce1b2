-- Parts of which one is put in or taken out, and an excerpt that grows by what steps lead to.
use Rattle.std.proofs.Common.{◌≡◌, ℕ, ◌+◌, ◌<◌, ◌≤◌, zero, suc, List, [], ◌∷◌, ◌++◌, length, map, take, drop, get_or, cond, Bool, true, false, ◌&&◌, Ordering, Less, Option, Some, None, Result, Ok, Err, IfOk, refl, sym, ap, subst, ◌∙◌, arith, rules}
use Rattle.std.specs.Prelude.{option_map}
use Rattle.std.specs.Cmp.Lexicographic.{slice_cmp}
use Rattle.std.specs.Ordering.{nat_cmp, is_lt, is_eq, ordering_reverse}
use Rattle.std.specs.Str.{bytes_eq}
use Rattle.std.proofs.lemmas.Bool.{and_parts, false≢true}
use Rattle.std.proofs.lemmas.Cmp.{nat_list_cmp_total}
use Rattle.std.proofs.lemmas.Map.Text.{is_eq-slice_cmp}
use Rattle.std.proofs.lemmas.Slice.Eq.{bytes_eq-Decides}
use Rattle.ax_tree.specs.Names.{HaveRisingNames}
use Rattle.ax_tree.specs.declared.members.Member.{Member}
use Rattle.ax_mean.specs.declared.expr.QueryStep.{QueryStep}
use Rattle.ax_mean.specs.declared.expr.QueryStep.TheVariants as step
use Rattle.ax_excerpt.specs.declared.excerpt.Excerpt.{Excerpt}
use Rattle.ax_excerpt.specs.declared.excerpt.Excerpt as excerpt
use Rattle.ax_excerpt.specs.Excerpts.{kept_in, keeps, part_named}
use Rattle.ax_excerpt.specs.Needs.{Grows}
use Rattle.ax_excerpt.specs.Openings.{put_at, HasRoom, IsOpened}
use Rattle.ax_excerpt.specs.Plain.{are_plain, is_plain, plain_parts, plain_flag}
use Rattle.ax_excerpt.proofs.KeptSteps.{keeps_member, keeps_position, keeps_whole, none_some, under_first}
use Rattle.ax_excerpt.proofs.RisingParts.{both_true, is_lt_Less, later, parted, put_back, skipped}

-- ---- names that rise are apart

not_equal : (o : Ordering) → o ≡ Less → is_eq o ≡ false
not_equal o is = ap is_eq is

below_apart : (a b : List ℕ) → is_lt (slice_cmp nat_cmp a b) ≡ true → bytes_eq a b ≡ false
below_apart a b below =
    sym (is_eq-slice_cmp a b) ∙ not_equal (slice_cmp nat_cmp a b) (is_lt_Less _ below)

above_apart : (a b : List ℕ) → is_lt (slice_cmp nat_cmp a b) ≡ true → bytes_eq b a ≡ false
above_apart a b below =
    sym (is_eq-slice_cmp b a)
    ∙ ap is_eq (nat_list_cmp_total.antisymm b a ∙ ap ordering_reverse (is_lt_Less _ below))

its_own : (name : List ℕ) → bytes_eq name name ≡ true
its_own name = (bytes_eq-Decides name name).1 refl

abbrev made : List ℕ → Excerpt → Member Excerpt
made name part = record { name = name; value = part }

not_first : (x : Member Excerpt) (xs : List (Member Excerpt)) (at : ℕ) (m : Member Excerpt)
    → HaveRisingNames (x ∷ (take at xs ++ m ∷ drop at xs)) → bytes_eq x.name m.name ≡ false
not_first x xs zero m r =
    below_apart x.name m.name (and_parts (is_lt (slice_cmp nat_cmp x.name m.name)) _ r).0
not_first x [] (suc at) m r =
    below_apart x.name m.name (and_parts (is_lt (slice_cmp nat_cmp x.name m.name)) _ r).0
not_first x (y ∷ ys) (suc at) m r = not_first x ys at m (skipped x y (take at ys ++ m ∷ drop at ys) r)

none_behind : (m : Member Excerpt) (parts : List (Member Excerpt)) → HaveRisingNames (m ∷ parts)
    → part_named m.name parts ≡ None
none_behind m [] r = refl
none_behind m (y ∷ ys) r =
    under_first m.name y ys false
    (above_apart m.name y.name (and_parts (is_lt (slice_cmp nat_cmp m.name y.name)) _ r).0)
    ∙ none_behind m ys (skipped m y ys r)

pub none_named : (parts : List (Member Excerpt)) (at : ℕ) (name : List ℕ) (part : Excerpt)
    → HaveRisingNames (put_at at name part parts) → part_named name parts ≡ None
none_named [] at name part r = refl
none_named (x ∷ xs) zero name part r = none_behind (made name part) (x ∷ xs) r
none_named (x ∷ xs) (suc at) name part r =
    under_first name x xs false (not_first x xs at (made name part) r)
    ∙ none_named xs at name part (later x (put_at at name part xs) r)

-- ---- one put in

pub put_named : (parts : List (Member Excerpt)) (at : ℕ) (name : List ℕ) (part : Excerpt)
    → HaveRisingNames (put_at at name part parts)
    → part_named name (put_at at name part parts) ≡ Some part
put_named parts zero name part r = under_first name (made name part) parts true (its_own name)
put_named [] (suc at) name part r = under_first name (made name part) [] true (its_own name)
put_named (x ∷ xs) (suc at) name part r =
    under_first name x (put_at at name part xs) false (not_first x xs at (made name part) r)
    ∙ put_named xs at name part (later x (put_at at name part xs) r)

pub put_others : (parts : List (Member Excerpt)) (at : ℕ) (name n : List ℕ) (part : Excerpt)
    → bytes_eq name n ≡ false → part_named n (put_at at name part parts) ≡ part_named n parts
put_others parts zero name n part apart = under_first n (made name part) parts false apart
put_others [] (suc at) name n part apart = under_first n (made name part) [] false apart
put_others (x ∷ xs) (suc at) name n part apart =
    under_first n x (put_at at name part xs) (bytes_eq x.name n) refl
    ∙ ap (cond (bytes_eq x.name n) (Some x.value)) (put_others xs at name n part apart)
    ∙ sym (under_first n x xs (bytes_eq x.name n) refl)

pub put_plain : (parts : List (Member Excerpt)) (at : ℕ) (name : List ℕ) (part : Excerpt)
    → plain_parts (map plain_flag parts) ≡ true → is_plain name ≡ true → are_plain part ≡ true
    → plain_parts (map plain_flag (put_at at name part parts)) ≡ true
put_plain parts zero name part all own its =
    both_true (is_plain name && are_plain part) (plain_parts (map plain_flag parts))
    (both_true (is_plain name) (are_plain part) own its) all
put_plain [] (suc at) name part all own its =
    both_true (is_plain name && are_plain part) true
    (both_true (is_plain name) (are_plain part) own its) refl
put_plain (x ∷ xs) (suc at) name part all own its =
    let both = and_parts (is_plain x.name && are_plain x.value) (plain_parts (map plain_flag xs)) all in
    both_true (is_plain x.name && are_plain x.value) (plain_parts (map plain_flag (put_at at name part xs)))
    both.0 (put_plain xs at name part both.1 own its)

pub plain_taken : (parts : List (Member Excerpt)) (at : ℕ) (name : List ℕ) (part : Excerpt)
    → plain_parts (map plain_flag (put_at at name part parts)) ≡ true
    → (plain_parts (map plain_flag parts) ≡ true) × (are_plain part ≡ true)
plain_taken parts zero name part all =
    let both = and_parts (is_plain name && are_plain part) (plain_parts (map plain_flag parts)) all in
    (both.1, (and_parts (is_plain name) (are_plain part) both.0).1)
plain_taken [] (suc at) name part all =
    let both = and_parts (is_plain name && are_plain part) true all in
    (refl, (and_parts (is_plain name) (are_plain part) both.0).1)
plain_taken (x ∷ xs) (suc at) name part all =
    let both = and_parts (is_plain x.name && are_plain x.value)
    (plain_parts (map plain_flag (put_at at name part xs))) all in
    let rest = plain_taken xs at name part both.1 in
    (both_true (is_plain x.name && are_plain x.value) (plain_parts (map plain_flag xs)) both.0 rest.0, rest.1)

-- ---- one taken out

pub taken_out : (whole parts : List (Member Excerpt)) (at : ℕ) (m : Member Excerpt) (name : List ℕ)
    → HaveRisingNames whole → at < length whole → m ≡ get_or whole at m → m.name ≡ name
    → parts ≡ take at whole ++ drop (at + 1) whole → IsOpened whole name m.name parts m.value
taken_out whole parts at m name r there is named e =
    let h : at ≤ length whole = omega (arith, there) in
    let again : put_at at m.name m.value parts ≡ whole =
    put_back whole parts m.name at m.value h e
    ∙ ap (λ (x : Member Excerpt). take at whole ++ x ∷ drop (at + 1) whole) is ∙ parted whole at m there in
    let rising : HaveRisingNames (put_at at m.name m.value parts) = subst HaveRisingNames (sym again) r in
    let found : part_named m.name whole ≡ Some m.value =
    ap (part_named m.name) (sym again) ∙ put_named parts at m.name m.value rising in
    record {
      named = named;
      own = λ other so. own_value other m.value
          (sym so ∙ ap (λ n. part_named n whole) (sym named) ∙ found);
      others = λ n apart.
          sym (put_others parts at m.name n m.value (ap (λ k. bytes_eq k n) named ∙ apart))
          ∙ ap (part_named n) again;
      plain = λ all. plain_taken parts at m.name m.value
          (ap (λ l. plain_parts (map plain_flag l)) again ∙ all);
    }
  where
    own_value : (a b : Excerpt) → Some a ≡ Some b → a ≡ b
    own_value a b e = cc

pub newly : (parts : List (Member Excerpt)) (at : ℕ) (name : List ℕ) (part : Excerpt)
    → HasRoom name parts at → are_plain part ≡ true → IsOpened parts name name parts part
newly parts at name part room its = record {
  named = refl;
  own = λ found so. absurd (none_some (sym (none_named parts at name part (room.rise part)) ∙ so));
  others = λ n apart. refl;
  plain = λ all. (all, its);
}

-- ---- an excerpt that grows

whole_plain : are_plain excerpt.Whole ≡ true
whole_plain = search (rules, excerpt.the_lemmas)

pub none_plain : are_plain (excerpt.Part []) ≡ true
none_plain = search (rules, excerpt.the_lemmas)

pub part_plain : (parts : List (Member Excerpt))
    → are_plain (excerpt.Part parts) ≡ plain_parts (map plain_flag parts)
part_plain parts = search (rules, excerpt.the_lemmas)

pub part_keeps_less : (parts : List (Member Excerpt)) → keeps (excerpt.Part parts) [] ≡ false
part_keeps_less parts = search (rules, excerpt.the_lemmas)

pub grows_whole : (old : Excerpt) (steps : List QueryStep) → Grows old steps excerpt.Whole
grows_whole old steps = record {
  kept = keeps_whole steps;
  more = λ s so. keeps_whole s;
  plain = λ so. whole_plain;
}

pub stays : (parts : List (Member Excerpt)) (at : ℕ) (steps : List QueryStep)
    → Grows (excerpt.Part parts) (step.Position at ∷ steps) (excerpt.Part parts)
stays parts at steps = record {
  kept = keeps_position parts at steps;
  more = λ s so. so;
  plain = λ so. so;
}

module _ (old parts : List (Member Excerpt)) (at : ℕ) (name taken : List ℕ) (part grown new : Excerpt)
    (steps : List QueryStep) (is : new ≡ excerpt.Part (put_at at taken grown parts))
    (room : HasRoom taken parts at) (opened : IsOpened old name taken parts part)
    (grows : Grows part steps grown) where
  abbrev all : List (Member Excerpt)
  all = put_at at name grown parts

  is_all : new ≡ excerpt.Part all
  is_all = is ∙ ap (λ n. excerpt.Part (put_at at n grown parts)) opened.named

  rising : HaveRisingNames all
  rising = subst (λ n. HaveRisingNames (put_at at n grown parts)) opened.named (room.rise grown)

  at_name : (s : List QueryStep) → keeps grown s ≡ true → keeps new (step.Member name ∷ s) ≡ true
  at_name s so =
      ap (λ e. keeps e (step.Member name ∷ s)) is_all
      ∙ keeps_member all name (Some grown) s (sym (put_named parts at name grown rising)) ∙ so

  own_kept : (s : List QueryStep) (found : Option Excerpt) → found ≡ part_named name old
      → kept_in (option_map keeps found) s ≡ true → keeps new (step.Member name ∷ s) ≡ true
  own_kept s None so h = absurd (false≢true h)
  own_kept s (Some f) so h =
      at_name s (grows.more s (ap (λ e. keeps e s) (sym (opened.own f (sym so))) ∙ h))

  kept_so : (n : List ℕ) (s : List QueryStep) (b : Bool) → bytes_eq name n ≡ b
      → keeps (excerpt.Part old) (step.Member n ∷ s) ≡ true → keeps new (step.Member n ∷ s) ≡ true
  kept_so n s true same h =
      let is_name : name ≡ n = (bytes_eq-Decides name n).0 same in
      subst (λ k. keeps new (step.Member k ∷ s) ≡ true) is_name
      (own_kept s (part_named name old) refl
      (ap (λ k. kept_in (option_map keeps (part_named k old)) s) is_name
      ∙ sym (keeps_member old n (part_named n old) s refl) ∙ h))
  kept_so n s false apart h =
      ap (λ e. keeps e (step.Member n ∷ s)) is_all
      ∙ keeps_member all n (part_named n old) s
      (sym (put_others parts at name n grown apart ∙ opened.others n apart))
      ∙ sym (keeps_member old n (part_named n old) s refl) ∙ h

  more_kept : (s : List QueryStep) → keeps (excerpt.Part old) s ≡ true → keeps new s ≡ true
  more_kept [] h = absurd (false≢true (sym (part_keeps_less old) ∙ h))
  more_kept (step.Member n ∷ s) h = kept_so n s (bytes_eq name n) refl h
  more_kept (step.Position p ∷ s) h =
      ap (λ e. keeps e (step.Position p ∷ s)) is_all ∙ keeps_position all p s

  pub grows_there : is_plain name ≡ true → Grows (excerpt.Part old) (step.Member name ∷ steps) new
  grows_there own = record {
    kept = at_name steps grows.kept;
    more = more_kept;
    plain = λ so.
        let before = opened.plain (sym (part_plain old) ∙ so) in
        ap are_plain is_all ∙ part_plain all
        ∙ put_plain parts at name grown before.0 own (grows.plain before.1);
  }

pub put_back_grown : {E : Type 0} (old parts : List (Member Excerpt)) (at : ℕ) (name taken : List ℕ)
    (part grown : Excerpt) (steps : List QueryStep) (made : Result Excerpt E)
    → IfOk made (λ new. new ≡ excerpt.Part (put_at at taken grown parts))
    → HasRoom taken parts at → IsOpened old name taken parts part → Grows part steps grown
    → is_plain name ≡ true
    → IfOk made (λ new. Grows (excerpt.Part old) (step.Member name ∷ steps) new)
put_back_grown old parts at name taken part grown steps (Ok new) is room opened grows own =
    grows_there old parts at name taken part grown new steps is room opened grows own
put_back_grown old parts at name taken part grown steps (Err fault) is room opened grows own = is
