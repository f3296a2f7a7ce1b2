-- Laws of moments: what holds at each moment of two runs of calls, one after the other, holds at each moment of both.
use Rattle.std.proofs.Common.{◌≡◌, ◌⊎◌, ⊎_elim, ℕ, ◌<◌, ◌≤◌, nat_le, if◌then◌else◌, sym, subst, arith}
use Rattle.ax_disk.specs.model.Image.{Image}
use Rattle.ax_disk.specs.model.Pending.{MayLeave}
use Rattle.ax_disk.specs.model.Moments.{History, Elapses, Progresses, IsCurrent}

up_to_or_after : (t m : ℕ) → (t ≤ m) ⊎ (m < t)
up_to_or_after t m = grind arith

-- before the first call
pub elapses_start : (history : History) (P : ℕ → Image → Type 0) → Elapses history history P
elapses_start history P = record {
  later = omega arith;
  past = λ t image _. (λ left. left, λ left. left);
  during = λ t image after to _. absurd (omega arith);
}

-- one run of calls, and then another
pub elapses_join : (old mid new : History) (P : ℕ → Image → Type 0) → Elapses old mid P → Elapses mid new P → Elapses old new P
elapses_join old mid new P first second = record {
  later = omega (arith, first.later, second.later);
  past = λ t image to.
      let one = first.past t image to in
      let two = second.past t image (omega (arith, first.later)) in
      (λ left. one.0 (two.0 left), λ left. two.1 (one.1 left));
  during = λ t image after to left.
      ⊎_elim
      (λ before. first.during t image after before ((second.past t image before).0 left))
      (λ later. second.during t image later to left)
      (up_to_or_after t mid.moment);
}

-- what follows from it at each moment
pub elapses_weaken : (old new : History) (P Q : ℕ → Image → Type 0) → ((t : ℕ) (image : Image) → old.moment < t → t ≤ new.moment → P t image → Q t image)
    → Elapses old new P → Elapses old new Q
elapses_weaken old new P Q follows time = record {
  later = time.later;
  past = time.past;
  during = λ t image after to left. follows t image after to (time.during t image after to left);
}

-- the same, of a property that asks for no moment
pub elapses_with : (old new : History) (P Q : Image → Type 0) → ((image : Image) → P image → Q image) → Elapses old new (λ _ image. P image)
    → Elapses old new (λ _ image. Q image)
elapses_with old new P Q follows time = record {
  later = time.later;
  past = time.past;
  during = λ t image after to left. follows image (time.during t image after to left);
}

-- What a crash now may leave has what holds at each moment of a run in which time went on.
pub elapses_now : (old new : History) (P : ℕ → Image → Type 0) → Elapses old new P → IsCurrent new → old.moment < new.moment → (image : Image)
    → MayLeave new.unsynced image → P new.moment image
elapses_now old new P time current went_on image may = time.during new.moment image went_on (omega arith) ((current image).1 may)

-- one stage, all the time
pub progress_stays : (old new : History) (n : ℕ) (P : ℕ → Image → Type 0) → Elapses old new (λ _ image. P n image) → Progresses old new n n P
progress_stays old new n P time = record {
  stage = λ _. n;
  from_first = λ _. omega arith;
  to_last = λ _. omega arith;
  never_falls = λ _ _ _. omega arith;
  each = time;
}

-- wider bounds
pub progress_within : (old new : History) (h i j k : ℕ) (P : ℕ → Image → Type 0) → h ≤ i → j ≤ k → Progresses old new i j P → Progresses old new h k P
progress_within old new h i j k P lower upper run = record {
  stage = run.stage;
  from_first = λ t. omega (arith, run.from_first t);
  to_last = λ t. omega (arith, run.to_last t);
  never_falls = run.never_falls;
  each = run.each;
}

-- a run that goes on where another has ended
abbrev joined : ℕ → (ℕ → ℕ) → (ℕ → ℕ) → ℕ → ℕ
joined m before after t = if nat_le t m then before t else after t

joined_before : (m : ℕ) (before after : ℕ → ℕ) (t : ℕ) → t ≤ m → joined m before after t ≡ before t
joined_before m before after t le = grind arith

joined_after : (m : ℕ) (before after : ℕ → ℕ) (t : ℕ) → m < t → joined m before after t ≡ after t
joined_after m before after t lt = grind arith

joined_rises : (m j : ℕ) (before after : ℕ → ℕ) → ((t : ℕ) → before t ≤ j) → ((t : ℕ) → j ≤ after t) → ((s t : ℕ) → s ≤ t → before s ≤ before t)
    → ((s t : ℕ) → s ≤ t → after s ≤ after t) → (s t : ℕ) → s ≤ t → joined m before after s ≤ joined m before after t
joined_rises m j before after most least rises_before rises_after s t le =
    ⊎_elim
    (λ t_before. omega (arith, joined_before m before after s (omega arith), joined_before m before after t t_before, rises_before s t le))
    (λ t_after. ⊎_elim
    (λ s_before. omega (arith, joined_before m before after s s_before, joined_after m before after t t_after, most s, least t))
    (λ s_after. omega (arith, joined_after m before after s s_after, joined_after m before after t t_after, rises_after s t le))
    (up_to_or_after s m))
    (up_to_or_after t m)

joined_least : (m i j : ℕ) (before after : ℕ → ℕ) → i ≤ j → ((t : ℕ) → i ≤ before t) → ((t : ℕ) → j ≤ after t) → (t : ℕ) → i ≤ joined m before after t
joined_least m i j before after le least_before least_after t =
    ⊎_elim
    (λ t_before. omega (arith, joined_before m before after t t_before, least_before t))
    (λ t_after. omega (arith, joined_after m before after t t_after, least_after t))
    (up_to_or_after t m)

joined_most : (m j k : ℕ) (before after : ℕ → ℕ) → j ≤ k → ((t : ℕ) → before t ≤ j) → ((t : ℕ) → after t ≤ k) → (t : ℕ) → joined m before after t ≤ k
joined_most m j k before after le most_before most_after t =
    ⊎_elim
    (λ t_before. omega (arith, joined_before m before after t t_before, most_before t))
    (λ t_after. omega (arith, joined_after m before after t t_after, most_after t))
    (up_to_or_after t m)

-- one run of calls that ends in a stage, and then another that goes on from it
pub progress_join : (old mid new : History) (i j k : ℕ) (P : ℕ → Image → Type 0) → Progresses old mid i j P → Progresses mid new j k P
    → Progresses old new i k P
progress_join old mid new i j k P first second =
    let m = mid.moment in
    let stage = joined m first.stage second.stage in
    let ij : i ≤ j = omega (arith, first.from_first 0, first.to_last 0) in
    let jk : j ≤ k = omega (arith, second.from_first 0, second.to_last 0) in
    record {
      stage = stage;
      from_first = joined_least m i j first.stage second.stage ij first.from_first second.from_first;
      to_last = joined_most m j k first.stage second.stage jk first.to_last second.to_last;
      never_falls = joined_rises m j first.stage second.stage first.to_last second.from_first first.never_falls second.never_falls;
      each = record {
        later = omega (arith, first.each.later, second.each.later);
        past = λ t image to.
            let one = first.each.past t image to in
            let two = second.each.past t image (omega (arith, first.each.later)) in
            (λ left. one.0 (two.0 left), λ left. two.1 (one.1 left));
        during = λ t image after to left.
            ⊎_elim
            (λ before. subst (λ (n : ℕ). P n image) (sym (joined_before m first.stage second.stage t before))
            (first.each.during t image after before ((second.each.past t image before).0 left)))
            (λ later. subst (λ (n : ℕ). P n image) (sym (joined_after m first.stage second.stage t later)) (second.each.during t image later to left))
            (up_to_or_after t m);
      };
    }

-- What holds of each image of a run's moments, and of those that a crash may leave before it, holds of those that a crash may leave after it.
pub elapses_exit : (old new : History) (P : Image → Type 0) → Elapses old new (λ _ image. P image) → IsCurrent old → IsCurrent new
    → ((image : Image) → MayLeave old.unsynced image → P image) → (image : Image) → MayLeave new.unsynced image → P image
elapses_exit old new P time current_old current_new at_first image may =
    let left = (current_new image).1 may in
    ⊎_elim
    (λ still.
    let same : old.moment ≡ new.moment = omega (arith, time.later) in
    let before : old.left_at new.moment image = (time.past new.moment image still).0 left in
    at_first image ((current_old image).0 (subst (λ (t : ℕ). old.left_at t image) (sym same) before)))
    (λ later. time.during new.moment image later (omega arith) left)
    (up_to_or_after new.moment old.moment)
