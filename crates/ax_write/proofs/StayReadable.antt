-- A commit of changes that can be read keeps readable all that images tell.
use Rattle.std.proofs.Common.{◌⊎◌, ⊎_elim, ℕ, List, [], ◌∷◌, ◌++◌, sym, subst}
use Rattle.std.specs.List.{AllByRecursion}
use Rattle.ax_area.proofs.OneOutcome.{one_told}
use Rattle.ax_area.specs.Changes.{Change}
use Rattle.ax_area.specs.Contents.{Contents}
use Rattle.ax_area.specs.Image.{Says}
use Rattle.ax_area.specs.Told.{Told}
use Rattle.ax_disk.specs.laws.StaysLaws.{stays_weaken}
use Rattle.ax_disk.specs.model.Image.{Image}
use Rattle.ax_disk.specs.model.Moments.{History}
use Rattle.ax_disk.specs.model.Pending.{MayLeave}
use Rattle.ax_disk.specs.model.Stays.{Rests, Stays, Turns}
use Rattle.ax_image.specs.Readable.{newest, SaysReadable}
use Rattle.ax_image_grammar.specs.Grammar.{AreReadable}
use Rattle.ax_image_grammar.specs.Payloads.{IsReadable}
use Rattle.ax_store.specs.Store.{SaysMore}

joined : (told more : List Told) → AreReadable newest told → AreReadable newest more
    → AreReadable newest (told ++ more)
joined [] more all others = others
joined (t ∷ told) more all others = (all.0, joined told more all.1 others)

-- an image that tells what can be read tells nothing else
says_readable : (version : ℕ) (told : List Told) (contents : Contents) (image : Image)
    → Says newest version told contents image → AreReadable newest told → SaysReadable image
says_readable version told contents image says all = λ v other c there.
    subst (AreReadable newest) (one_told newest image version v told other contents c says there) all

-- before and after a commit of these changes
pub readable_by : (old new : History) (version : ℕ) (told : List Told) (before after : Contents) (changes : List Change)
    → AllByRecursion (IsReadable newest) changes → Rests old SaysReadable → MayLeave old.unsynced old.reads
    → Says newest version told before old.reads
    → Turns old new (Says newest version told before) (SaysMore version told changes after) → Stays old new SaysReadable
readable_by old new version told before after changes readable reads may says turns =
    let all : AreReadable newest told = reads.each old.reads may version told before says in
    stays_weaken old new (λ image. Says newest version told before image ⊎ SaysMore version told changes after image) SaysReadable
    (λ image either. ⊎_elim
    (λ (same : Says newest version told before image). says_readable version told before image same all)
    (λ (more : SaysMore version told changes after image).
    says_readable version (told ++ more.0) after image more.2
    (joined told more.0 all (subst (AllByRecursion (IsReadable newest)) (sym more.1) readable)))
    either)
    turns
