-- A line whose reply was written, or begun.
use Rattle.std.proofs.Common.{◌≡◌, ◌==◌, ◌⊎◌, inl, inr, ℕ, ◌+◌, ◌≤◌, true, List, [], ◌∷◌, length, take}
use Rattle.std.proofs.Common.{Bool, Option, refl, subst, arith}
use Rattle.std.specs.Prelude.{IsTrue}
use Rattle.std.specs.Io.KnownBytes.{Appends}
use Rattle.std.proofs.KnownBytes.{Appends-nil}
use Rattle.ax_base.specs.Appends.{AppendsPrefix}
use Rattle.ax_cache.specs.Pages.{CachedPages}
use Rattle.ax_disk.specs.model.Image.{Image}
use Rattle.ax_disk.specs.model.Moments.{History}
use Rattle.ax_disk.specs.model.Stays.{Turns}
use Rattle.ax_disk.specs.laws.StaysLaws.{rests_weaken}
use Rattle.ax_container.specs.Container.{Container}
use Rattle.ax_engine.specs.Engine.{HoldsOver, Works}
use Rattle.ax_documents.specs.Opening.{IsImageOf}
use Rattle.ax_engine.specs.declared.engine.Engine.{Engine}
use Rattle.ax_engine.proofs.Applying.{rests_over}
use Rattle.ax_machine.specs.Needs.{most_steps}
use Rattle.ax_machine.specs.ReplyTexts.{reply_text}
use Rattle.ax_machine.specs.Run.{Outcome, after_line, reply_to}
use Rattle.ax_script.specs.Streams.{Outlets}
use Rattle.ax_script.specs.Progress.{Reaches, Serves, BeginsToServe, outlets}
use Rattle.ax_script.proofs.DiskMoments.{reaches_served, reaches_unserved}

module _ {C : Type 0} (pages : C → CachedPages) (trusted : Bool) (engine : Engine C) (before : Container) (line : List ℕ)
    (outcome : Outcome) (old new : Outlets) where
  abbrev honest : Type 0
  honest = IsTrue trusted

  abbrev after : Container
  after = after_line before line outcome

  abbrev answered : List ℕ
  answered = reply_text (reply_to before line outcome)

  pub serves_by : (bytes : List ℕ) → bytes ≡ answered → Appends old.written new.written bytes
      → Works pages trusted engine new.history → HoldsOver engine new.history after
      → (honest → Turns old.history new.history (IsImageOf before) (IsImageOf after))
      → new.steps ≤ old.steps + most_steps before line
      → Serves honest before line after old new
  serves_by bytes is added works holds turns bounded = record {
    outcome = outcome;
    made = refl;
    replied = subst (Appends old.written new.written) is added;
    turns = turns;
    rests = rests_over pages trusted engine new.history after works holds;
    bounded = bounded;
  }

  pub begins_by : (bytes : List ℕ) → bytes ≡ answered → AppendsPrefix old.written new.written bytes
      → Works pages trusted engine new.history → HoldsOver engine new.history after
      → (honest → Turns old.history new.history (IsImageOf before) (IsImageOf after))
      → new.steps ≤ old.steps + most_steps before line
      → BeginsToServe honest before line old new
  begins_by bytes is added works holds turns bounded =
      let prefix = subst (AppendsPrefix old.written new.written) is added in
      record {
        outcome = outcome;
        replied = prefix;
        turns = turns;
        rests = λ h. rests_weaken new.history (IsImageOf after)
            (Reaches before (record { line = line; outcome = outcome } ∷ []) (take prefix.0 answered))
            (λ image shows. reaches_served before line outcome (take prefix.0 answered) image shows)
            (rests_over pages trusted engine new.history after works holds h);
        bounded = bounded;
      }

either_reached : (before : Container) (line : List ℕ) (outcome : Outcome) (image : Image)
    → IsImageOf before image ⊎ IsImageOf (after_line before line outcome) image
    → Reaches before (record { line = line; outcome = outcome } ∷ []) [] image
either_reached before line outcome image (inl shows) = reaches_unserved before line outcome image shows
either_reached before line outcome image (inr shows) = reaches_served before line outcome [] image shows

-- nothing was written of the reply
pub begins_without : (honest : Type 0) (before : Container) (line : List ℕ) (outcome : Outcome)
    (written : Option (List ℕ)) (old new : History) (steps now : ℕ)
    → (honest → Turns old new (IsImageOf before) (IsImageOf (after_line before line outcome)))
    → now ≤ steps + most_steps before line
    → BeginsToServe honest before line (outlets written old steps) (outlets written new now)
begins_without honest before line outcome written old new steps now turns bounded = record {
  outcome = outcome;
  replied = (0, omega arith, Appends-nil written);
  turns = turns;
  rests = λ h. rests_weaken new (λ image. IsImageOf before image ⊎ IsImageOf (after_line before line outcome) image)
      (Reaches before (record { line = line; outcome = outcome } ∷ []) [])
      (λ image shows. either_reached before line outcome image shows) (turns h).rests;
  bounded = bounded;
}

zero_len : (n : ℕ) → true ≡ (n == 0) → n ≡ 0
zero_len n e = grind arith

pub empty_list : (xs : List ℕ) (n : ℕ) → length xs ≡ n → true ≡ (n == 0) → xs ≡ []
empty_list [] n len e = refl
empty_list (x ∷ xs) n len e = absurd (omega (arith, len, zero_len n e))
