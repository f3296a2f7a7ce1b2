-- What it comes to that changes of documents are committed with changes of the index behind them.
-- It is this project's own; it comes from no public document.
use Rattle.std.specs.Prelude.{◌≡◌, ℕ, Bool, true, List, ◌++◌, Some, IsTrue}
use Rattle.ax_area.specs.Changes.{Change}
use Rattle.ax_area.specs.Contents.{Contents, after_changes}
use Rattle.ax_area.specs.Leading.{LeadTo}
use Rattle.ax_area.specs.Parts.{after_parts}
use Rattle.ax_area.specs.Told.{Told}
use Rattle.ax_delta.specs.declared.change.Change.{Change as PairChange}
use Rattle.ax_disk.specs.model.Calls.{Idles}
use Rattle.ax_disk.specs.model.Image.{Image}
use Rattle.ax_disk.specs.model.Moments.{History}
use Rattle.ax_frame.specs.Part.{PartValue}
use Rattle.ax_image_pairs.specs.Carrying.{MakeChanges}
use Rattle.ax_pages.specs.Contents.{TermPage}
use Rattle.ax_store.specs.Store.{SaysMore}
use Rattle.ax_store.specs.declared.fault.StoreFault.{StoreFault}
use Rattle.ax_store.specs.declared.fault.StoreFault.TheVariants.{Disk, Damaged, Newer, Memory}

-- the parts may follow the contents, and leave the term pages as they are
pub record LeaveTerms (parts : List PartValue) (contents : Contents) : Type 0 where
  pub new : Contents
  pub lead : after_parts parts contents ≡ Some new
  pub same : new.terms ≡ contents.terms

-- The changes in front, and behind them some that change term pages alone, lead from the old contents to the new
-- ones. Where what was read is to be trusted, those behind make the changes of the pairs.
pub record LeadWith (honest : Bool) (pairs : List PairChange) (front : List Change) (old new : Contents) : Type 0 where
  pub behind : List Change
  pub after : List TermPage
  pub turn : LeadTo behind old.terms after
  pub make : IsTrue honest → MakeChanges pairs behind old.terms
  pub lead : after_changes (front ++ behind) old ≡ Some new

-- Behind what was told the image tells changes that begin with those in front, and such behind them.
pub record SaysWith (version : ℕ) (told : List Told) (pairs : List PairChange) (front : List Change) (old : Contents)
    (image : Image) : Type 0 where
  pub new : Contents
  pub lead : LeadWith true pairs front old new
  pub says : SaysMore version told (front ++ lead.behind) new image

-- the disk failed, or memory ran out
abbrev pub IsBrief : StoreFault → Type 0
IsBrief Disk = Unit {0}
IsBrief (Damaged extent at) = ⊥
IsBrief (Newer version) = ⊥
IsBrief Memory = Unit {0}

-- unless it is the disk that failed, its lists are as they were
abbrev pub IdlesUnlessDisk : StoreFault → History → History → Type 0
IdlesUnlessDisk Disk before after = Unit {0}
IdlesUnlessDisk (Damaged extent at) before after = Idles before after
IdlesUnlessDisk (Newer version) before after = Idles before after
IdlesUnlessDisk Memory before after = Idles before after
