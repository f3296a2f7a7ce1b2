-- What is committed of the same parts over the same contents.
use Rattle.std.proofs.Common.{◌≡◌, ℕ, List, Result, Some, subst}
use Rattle.std.specs.Prelude.{OnOk}
use Rattle.ax_area.specs.Changes.{Change}
use Rattle.ax_area.specs.Contents.{Contents, after_changes}
use Rattle.ax_area.specs.Image.{Says}
use Rattle.ax_area.specs.Parts.{changes_said}
use Rattle.ax_area.specs.Told.{Told}
use Rattle.ax_disk.specs.model.Moments.{History}
use Rattle.ax_disk.specs.model.Stays.{Rests, Turns}
use Rattle.ax_frame.specs.Part.{PartValue}
use Rattle.ax_image.specs.Readable.{newest}
use Rattle.ax_store.specs.Batch.{AreAllowed}
use Rattle.ax_store.specs.Store.{SaysMore}
use Rattle.ax_store.specs.declared.fault.StoreFault.{StoreFault}

module _ (old new : History) where
  abbrev pub AnyMoment : List PartValue → Contents → Type 0
  AnyMoment parts contents =
      (version : ℕ) (told : List Told) (changes : List Change) (after : Contents) → Says newest version told contents old.reads
      → changes_said parts ≡ Some changes → after_changes changes contents ≡ Some after
      → Turns old new (Says newest version told contents) (SaysMore version told changes after)

  abbrev pub TellsMore : Result (Unit {0}) StoreFault → List PartValue → Contents → Type 0
  TellsMore result parts contents =
      (version : ℕ) (told : List Told) (changes : List Change) (after : Contents) → Says newest version told contents old.reads
      → changes_said parts ≡ Some changes → after_changes changes contents ≡ Some after
      → OnOk result (Rests new (SaysMore version told changes after))

  module _ (parts sealed : List PartValue) (contents now : Contents) (same_parts : sealed ≡ parts) (same : now ≡ contents) where
    pub any_moment_over : AnyMoment sealed now → AnyMoment parts contents
    any_moment_over is = subst (λ p. AnyMoment p contents) same_parts (subst (AnyMoment sealed) same is)

    pub tells_over : (result : Result (Unit {0}) StoreFault) → TellsMore result sealed now → TellsMore result parts contents
    tells_over result is = subst (λ p. TellsMore result p contents) same_parts (subst (TellsMore result sealed) same is)

pub allowed_over : (parts sealed : List PartValue) (contents now : Contents) → parts ≡ sealed → contents ≡ now → AreAllowed parts contents
    → AreAllowed sealed now
allowed_over parts sealed contents now same_parts same is = subst (λ p. AreAllowed p now) same_parts (subst (AreAllowed parts) same is)
