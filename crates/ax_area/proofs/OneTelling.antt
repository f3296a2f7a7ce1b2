-- Frames tell one list, or are spoiled at one place, and not both.
use Rattle.std.proofs.Common.{◌≡◌, ℕ, ◌+◌, List, [], ◌∷◌, ◌++◌, length, inl, inr, refl, sym, ap}
use Rattle.std.proofs.Common.{subst, ◌∙◌}
use Rattle.std.specs.Prelude.{◌≢◌, Some, None, option_and_then, unwrap_or}
use Rattle.std.proofs.lemmas.List.{append_assoc}
use Rattle.ax_area.specs.Items.{item_bytes}
use Rattle.ax_area.specs.Changes.{Change, change_of}
use Rattle.ax_area.specs.Contents.{Contents, after_change, after_changes}
use Rattle.ax_area.specs.Told.{Told, changes_of, told_bytes, IsTold, AreTold, Begins, TellOn, Lead}
use Rattle.ax_area.specs.Told.{IsRefused, IsSpoiled, AreSpoiled}
use Rattle.ax_area.proofs.OneItem.{one_item}

pub same_some : {A : Type 0} (x y : A) → Some x ≡ Some y → x ≡ y
same_some x y e = ap (λ found. unwrap_or found x) e

pub some_or_none : {A : Type 0} (x : A) → None ≡ Some x → ⊥
some_or_none x e = cc

-- changes lead by way of what the first of them leads to
pub record StepsBy (change : Change) (changes : List Change)
    (before after : Contents) : Type 0 where
  pub between : Contents
  pub first : after_change change before ≡ Some between
  pub others : after_changes changes between ≡ Some after

pub first_step : (change : Change) (changes : List Change) (before after : Contents)
    → after_changes (change ∷ changes) before ≡ Some after → StepsBy change changes before after
first_step change changes before after lead =
    elim (after_change change before) as (λ found. after_change change before ≡ found
    → option_and_then (after_changes changes) found ≡ Some after
    → StepsBy change changes before after) [
      | None ↦ λ is e. absurd (some_or_none after e)
      | Some between ↦ λ is e. record { between = between; first = is; others = e }
    ] refl lead

module _ (version : ℕ) where
  -- an item that leads on is not refused
  not_refused : (t : Told) (told : List Told) (rest bytes : List ℕ) (at : ℕ)
      (before after : Contents) → IsTold version at t → bytes ≡ told_bytes (t ∷ told) ++ rest
      → Lead (t ∷ told) before after → IsRefused version bytes before → ⊥
  not_refused t told rest bytes at before after is spelled lead refused =
      let step = first_step t.change (changes_of told) before after lead in
      let none = refused t.item (told_bytes told ++ rest) is.item
      (spelled ∙ append_assoc (item_bytes t.item) (told_bytes told) rest) in
      some_or_none step.between (sym none ∙ ap
      (option_and_then (λ change. after_change change before)) is.says ∙ step.first)

  -- the first of two lists that spell the same, and what follows each
  record SameFirst (s t : Told) (ss ts : List Told) (x y : List ℕ) : Type 0 where
    first : s ≡ t
    others : told_bytes ss ++ x ≡ told_bytes ts ++ y

  same_told : (s t : Told) (at : ℕ) → IsTold version at s → IsTold version at t → s.item ≡ t.item
      → s ≡ t
  same_told s t at is it same =
      let change : s.change ≡ t.change = same_some s.change t.change
      (sym is.says ∙ ap (change_of version) same ∙ it.says) in
      let place : s.at ≡ t.at = is.at_is ∙ sym it.at_is in
      λ k. record { at = place k; item = same k; change = change k }

  same_first : (s t : Told) (ss ts : List Told) (at : ℕ) (x y : List ℕ) → IsTold version at s
      → IsTold version at t → told_bytes (s ∷ ss) ++ x ≡ told_bytes (t ∷ ts) ++ y
      → SameFirst s t ss ts x y
  same_first s t ss ts at x y is it e =
      let one = one_item s.item t.item (told_bytes ss ++ x) (told_bytes ts ++ y) is.item it.item
      (sym (append_assoc (item_bytes s.item) (told_bytes ss) x) ∙ e
      ∙ append_assoc (item_bytes t.item) (told_bytes ts) y) in
      record { first = same_told s t at is it one.0; others = one.1 }

  -- from the second on, at the place behind the first of either
  behind : (s t : Told) (at : ℕ) (ts : List Told) → s ≡ t
      → AreTold version (at + length (item_bytes t.item)) ts
      → AreTold version (at + length (item_bytes s.item)) ts
  behind s t at ts same are =
      subst (λ (u : Told). AreTold version (at + length (item_bytes u.item)) ts) (sym same) are

  -- the contents behind the first of either
  same_between : (s t : Told) (before x y : Contents) → s ≡ t → after_change s.change before
      ≡ Some x → after_change t.change before ≡ Some y → x ≡ y
  same_between s t before x y same sx ty =
      same_some x y (sym sx ∙ ap (λ (u : Told). after_change u.change before) same ∙ ty)

  one_list : (ss ts : List Told) (at : ℕ) (before sr tr : Contents) (x y : List ℕ)
      → AreTold version at ss → AreTold version at ts → Lead ss before sr → Lead ts before tr
      → IsRefused version x sr → IsRefused version y tr → told_bytes ss ++ x ≡ told_bytes ts ++ y
      → ss ≡ ts
  one_list [] [] at before sr tr x y is it ls lt rs rt e = refl
  one_list [] (t ∷ ts) at before sr tr x y is it ls lt rs rt e =
      absurd (not_refused t ts y x at before tr it.0 e lt
      (subst (IsRefused version x) (sym (same_some before sr ls)) rs))
  one_list (s ∷ ss) [] at before sr tr x y is it ls lt rs rt e =
      absurd (not_refused s ss x y at before sr is.0 (sym e) ls
      (subst (IsRefused version y) (sym (same_some before tr lt)) rt))
  one_list (s ∷ ss) (t ∷ ts) at before sr tr x y is it ls lt rs rt e =
      let same = same_first s t ss ts at x y is.0 it.0 e in
      let sp = first_step s.change (changes_of ss) before sr ls in
      let tp = first_step t.change (changes_of ts) before tr lt in
      let between : tp.between ≡ sp.between = sym
      (same_between s t before sp.between tp.between same.first sp.first tp.first) in
      let later = one_list ss ts (at + length (item_bytes s.item)) sp.between sr tr x y is.1
      (behind s t at ts same.first it.1) sp.others
      (subst (λ c. after_changes (changes_of ts) c
      ≡ Some tr) between tp.others) rs rt same.others in
      ap (λ u. u ∷ ss) same.first ∙ ap (λ more. t ∷ more) later

  -- told to the end, both
  whole_list : (ss ts : List Told) (at : ℕ) → AreTold version at ss → AreTold version at ts
      → told_bytes ss ++ [] ≡ told_bytes ts ++ [] → ss ≡ ts
  whole_list [] [] at is it e = refl
  whole_list [] (t ∷ ts) at is it e = absurd cc
  whole_list (s ∷ ss) [] at is it e = absurd cc
  whole_list (s ∷ ss) (t ∷ ts) at is it e =
      let same = same_first s t ss ts at [] [] is.0 it.0 e in
      let later = whole_list ss ts (at + length (item_bytes s.item)) is.1
      (behind s t at ts same.first it.1) same.others in
      ap (λ u. u ∷ ss) same.first ∙ ap (λ more. t ∷ more) later

  pub one_telling : (bytes : List ℕ) (at : ℕ) (ss ts : List Told) → Begins version bytes at ss []
      → Begins version bytes at ts [] → ss ≡ ts
  one_telling bytes at ss ts bs bt = whole_list ss ts at bs.are bt.are (sym bs.spelled ∙ bt.spelled)

  pub one_place : (bytes : List ℕ) (at : ℕ) (before : Contents) (i j : ℕ)
      → IsSpoiled version bytes at before i → IsSpoiled version bytes at before j → i ≡ j
  one_place bytes at before i j si sj =
      let same = one_list si.told sj.told at before si.reached sj.reached si.rest
      sj.rest si.begins.are sj.begins.are si.lead sj.lead si.refused sj.refused
      (sym si.begins.spelled ∙ sj.begins.spelled) in
      si.place_is ∙ ap (λ told. at + length (told_bytes told)) same ∙ sym sj.place_is

  not_both : (ss ts : List Told) (at : ℕ) (before sr tr : Contents) (y : List ℕ)
      → AreTold version at ss → AreTold version at ts → Lead ss before sr → Lead ts before tr
      → y ≢ [] → IsRefused version y tr → told_bytes ss ++ [] ≡ told_bytes ts ++ y → ⊥
  not_both [] [] at before sr tr y is it ls lt some rt e = some (sym e)
  not_both [] (t ∷ ts) at before sr tr y is it ls lt some rt e = absurd cc
  not_both (s ∷ ss) [] at before sr tr y is it ls lt some rt e =
      not_refused s ss [] y at before sr is.0 (sym e) ls
      (subst (IsRefused version y) (sym (same_some before tr lt)) rt)
  not_both (s ∷ ss) (t ∷ ts) at before sr tr y is it ls lt some rt e =
      let same = same_first s t ss ts at [] y is.0 it.0 e in
      let sp = first_step s.change (changes_of ss) before sr ls in
      let tp = first_step t.change (changes_of ts) before tr lt in
      let between : tp.between ≡ sp.between = sym
      (same_between s t before sp.between tp.between same.first sp.first tp.first) in
      not_both ss ts (at + length (item_bytes s.item)) sp.between sr tr y is.1
      (behind s t at ts same.first it.1) sp.others
      (subst (λ c. after_changes (changes_of ts) c ≡ Some tr) between tp.others) some rt same.others

  pub told_or_spoiled : (bytes : List ℕ) (at : ℕ) (told : List Told) (before after : Contents)
      (i : ℕ) → Begins version bytes at told [] → Lead told before after
      → IsSpoiled version bytes at before i → ⊥
  told_or_spoiled bytes at told before after i begins lead spoiled =
      not_both told spoiled.told at before after spoiled.reached spoiled.rest begins.are
      spoiled.begins.are lead spoiled.lead spoiled.some spoiled.refused
      (sym begins.spelled ∙ spoiled.begins.spelled)

  -- ---- frames one after another

  pub one_telling_on : (frames : List (List ℕ)) (at : ℕ) (ss ts : List Told)
      → TellOn version frames at ss → TellOn version frames at ts → ss ≡ ts
  one_telling_on [] at ss ts is it = is ∙ sym it
  one_telling_on (frame ∷ frames) at ss ts (sf, so, se, sb, sm) (tf, to, te, tb, tm) =
      let first = one_telling frame (at + 9) sf tf sb tb in
      let others = one_telling_on frames (at + 9 + length frame) so to sm tm in
      se ∙ ap (λ f. f ++ so) first ∙ ap (λ o. tf ++ o) others ∙ sym te

  -- what was told first leads to contents from which the others lead
  record SplitsAt (first others : List Told) (before after : Contents) : Type 0 where
    between : Contents
    front : Lead first before between
    back : Lead others between after

  split_lead : (first others : List Told) (before after : Contents)
      → Lead (first ++ others) before after → SplitsAt first others before after
  split_lead [] others before after lead = record { between = before; front = refl; back = lead }
  split_lead (t ∷ first) others before after lead =
      let step = first_step t.change (changes_of (first ++ others)) before after lead in
      let more = split_lead first others step.between after step.others in
      record {
        between = more.between;
        front = ap
            (option_and_then (after_changes (changes_of first))) step.first ∙ more.front;
        back =
            more.back;
      }

  -- frames are spoiled at one place
  pub one_place_on : (frames : List (List ℕ)) (at : ℕ) (before : Contents) (i j : ℕ)
      → AreSpoiled version frames at before i → AreSpoiled version frames at before j → i ≡ j
  one_place_on [] at before i j si sj = absurd si
  one_place_on (frame ∷ frames) at before i j (inl si) (inl sj) =
      one_place frame (at + 9) before i j si sj
  one_place_on (frame ∷ frames) at before i j (inl si) (inr sj) =
      absurd (told_or_spoiled frame (at + 9) sj.0 before sj.1 i sj.2 sj.3 si)
  one_place_on (frame ∷ frames) at before i j (inr si) (inl sj) =
      absurd (told_or_spoiled frame (at + 9) si.0 before si.1 j si.2 si.3 sj)
  one_place_on (frame ∷ frames) at before i j (inr si) (inr sj) =
      let first = one_telling frame (at + 9) si.0 sj.0 si.2 sj.2 in
      let between : sj.1 ≡ si.1 = same_some sj.1 si.1
      (sym sj.3 ∙ ap (λ told. after_changes (changes_of told) before) (sym first) ∙ si.3) in
      one_place_on frames (at + 9 + length frame) si.1 i j si.4
      (subst (λ c. AreSpoiled version frames (at + 9 + length frame) c j) between sj.4)

  pub tell_or_spoiled : (frames : List (List ℕ)) (at : ℕ) (told : List Told)
      (before after : Contents) (i : ℕ) → TellOn version frames at told → Lead told before after
      → AreSpoiled version frames at before i → ⊥
  tell_or_spoiled [] at told before after i tell lead spoiled = spoiled
  tell_or_spoiled (frame ∷ frames) at told before after i (first, others, is, begins, more) lead
      (inl spoiled) =
      let split = split_lead first others before after (subst (λ t. Lead t before after) is lead) in
      told_or_spoiled frame (at + 9) first before split.between i begins split.front spoiled
  tell_or_spoiled (frame ∷ frames) at told before after i (first, others, is, begins, more) lead
      (inr spoiled) =
      let split = split_lead first others before after (subst (λ t. Lead t before after) is lead) in
      let same = one_telling frame (at + 9) first spoiled.0 begins spoiled.2 in
      let between : split.between ≡ spoiled.1 =
      same_some split.between spoiled.1 (sym split.front
      ∙ ap (λ t. after_changes (changes_of t) before) same ∙ spoiled.3) in
      tell_or_spoiled frames (at + 9 + length frame) others spoiled.1 after i more
      (subst (λ c. Lead others c after) between split.back) spoiled.4
