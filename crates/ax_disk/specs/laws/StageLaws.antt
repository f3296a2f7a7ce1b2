-- Laws of stages: what a run of calls has at its stages, what it leaves at its exit, and what a
-- barrier makes of them.
use Rattle.std.proofs.Common.{◌≡◌, ◌⊎◌, inl, inr, ⊎_elim, ℕ, zero, suc, ◌<◌, ◌≤◌, Ok, Err, sym, subst, arith}
use Rattle.ax_disk.specs.model.Image.{Image}
use Rattle.ax_disk.specs.model.Pending.{Unsynced, MayLeave}
use Rattle.ax_disk.specs.model.Moments.{History, Progresses, IsCurrent}
use Rattle.ax_disk.specs.model.Calls.{Syncs}
use Rattle.ax_disk.specs.model.Stays.{Rests, Stays, BarrierStage, SinceBarrier}
use Rattle.ax_disk.specs.laws.MomentLaws.{elapses_weaken, progress_stays, progress_within, progress_join}
use Rattle.ax_disk.specs.laws.CallLaws.{syncs_leave}

up_to_or_after : (t m : ℕ) → (t ≤ m) ⊎ (m < t)
up_to_or_after t m = grind arith

-- what follows at each stage
pub progress_weaken : (old new : History) (first last : ℕ) (P Q : ℕ → Image → Type 0)
    → ((n : ℕ) (image : Image) → first ≤ n → n ≤ last → P n image → Q n image)
    → Progresses old new first last P → Progresses old new first last Q
progress_weaken old new first last P Q follows run = record {
  stage = run.stage;
  from_first = run.from_first;
  to_last = run.to_last;
  never_falls = run.never_falls;
  each = elapses_weaken old new (λ t image. P (run.stage t) image)
      (λ t image. Q (run.stage t) image)
      (λ t image after to has. follows (run.stage t) image (run.from_first t) (run.to_last t) has)
      run.each;
}

-- a call at one stage, by what stays
pub stays_progress : (old new : History) (n : ℕ) (P : ℕ → Image → Type 0) → Stays old new (P n)
    → Progresses old new n n P
stays_progress old new n P stays = progress_stays old new n P stays.time

-- What a run leaves at its exit: some stage has it all, where the first stage has all that might be
-- left at the entry.
pub progress_exit : (old new : History) (first last : ℕ) (P : ℕ → Image → Type 0)
    → Progresses old new first last P → IsCurrent old → IsCurrent new
    → Rests old (P first) → (n : ℕ) × (first ≤ n) × (n ≤ last) × Rests new (P n)
progress_exit old new first last P run current_old current_new at_first =
    ⊎_elim
    (λ still.
    let same : old.moment ≡ new.moment = omega (arith, run.each.later) in (
      first,
      omega arith,
      omega (arith, run.from_first 0, run.to_last 0),
      record {
        each = λ image may.
            let before : old.left_at new.moment image = (run.each.past new.moment image still).0
            ((current_new image).1 may) in
            at_first.each image ((current_old image).0
            (subst (λ (t : ℕ). old.left_at t image) (sym same) before));
      },
    ))
    (λ later. (
      run.stage new.moment,
      run.from_first new.moment,
      run.to_last new.moment,
      record {
        each = λ image may. run.each.during new.moment image later (omega arith)
            ((current_new image).1 may);
      },
    ))
    (up_to_or_after new.moment old.moment)

-- ---- a barrier

module _ {T E : Type 0} where
  -- the sync failed: nothing is promised yet
  pub barrier_fails : (error : E) (old new : History) (P : Image → Type 0)
      → MayLeave old.unsynced old.reads → Syncs {T = T} (Err error) old new → SinceBarrier old new P
  barrier_fails error old new P stays sync = record {
    stages = progress_within old new 0 0 0 1 (BarrierStage old.unsynced (λ _ image. P image))
        (omega arith) (omega arith)
        (progress_stays old new 0 (BarrierStage old.unsynced (λ _ image. P image)) sync.time);
    rests = inl (record {
      each = λ image may. syncs_leave
          (Err error) old new sync stays image may;
    });
  }

  -- the sync succeeded, and from then on each image has P
  pub barrier_passed : (value : T) (old mid new : History) (P : Image → Type 0)
      → Syncs {E = E} (Ok value) old mid → Stays mid new P → SinceBarrier old new P
  barrier_passed value old mid new P sync stays = record {
    stages = progress_join old mid new 0 0 1 (BarrierStage old.unsynced (λ _ image. P image))
        (progress_stays old mid 0 (BarrierStage old.unsynced (λ _ image. P image)) sync.time)
        (progress_within mid new 0 1 1 1 (BarrierStage old.unsynced (λ _ image. P image))
        (omega arith) (omega arith)
        (progress_stays mid new 1 (BarrierStage old.unsynced (λ _ image. P image)) stays.time));
    rests = inr stays.rests;
  }

-- calls after the barrier
pub barrier_goes_on : (old mid new : History) (P : Image → Type 0) → SinceBarrier old mid P
    → Rests mid P → Stays mid new P → SinceBarrier old new P
barrier_goes_on old mid new P since rests stays = record {
  stages = progress_join old mid new 0 1 1 (BarrierStage old.unsynced (λ _ image. P image))
      since.stages
      (progress_stays mid new 1 (BarrierStage old.unsynced (λ _ image. P image)) stays.time);
  rests = inr stays.rests;
}

first_stages : (entry : Unsynced) (P : ℕ → Image → Type 0) (n : ℕ) (image : Image) → 0 ≤ n → n ≤ 1
    → BarrierStage entry (λ _ image. P 0 image) n image → BarrierStage entry P n image
first_stages entry P zero image from to has = has
first_stages entry P (suc zero) image from to has = has
first_stages entry P (suc (suc n)) image from to has = absurd (omega arith)

-- Calls that go through stages 0 to n after a barrier go through 1 to n + 1 with it.
pub barrier_progress : (old mid new : History) (last : ℕ) (P : ℕ → Image → Type 0)
    → SinceBarrier old mid (P 0) → Progresses mid new 0 last P
    → Progresses old new 0 (suc last) (BarrierStage old.unsynced P)
barrier_progress old mid new last P since run =
    progress_join old mid new 0 1 (suc last) (BarrierStage old.unsynced P)
    (progress_weaken old mid 0 1 (BarrierStage old.unsynced (λ _ image. P 0 image))
    (BarrierStage old.unsynced P) (first_stages old.unsynced P) since.stages)
    (record {
      stage = λ t. suc (run.stage t);
      from_first = λ t. omega arith;
      to_last = λ t. omega (arith, run.to_last t);
      never_falls = λ s t le. omega (arith, run.never_falls s t le);
      each = run.each;
    })
