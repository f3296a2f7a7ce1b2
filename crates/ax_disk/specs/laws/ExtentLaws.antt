-- Laws of the three lists by their extents: a change of one list is found in it, and leaves the other two.
use Rattle.std.proofs.Common.{◌≡◌, ◌≢◌, ℕ, List, refl}
use Rattle.ax_disk.specs.declared.extent.Extent.{Extent}
use Rattle.ax_disk.specs.declared.extent.Extent.TheVariants.{Root, A, B}
use Rattle.ax_disk.specs.model.Image.{Image, list_of, with_list}
use Rattle.ax_disk.specs.model.Pending.{Pending, settled, Unsynced, pending_of, with_pending, all_settled}

pub list_of-same : (ext : Extent) (bytes : List ℕ) (image : Image) → list_of ext (with_list ext bytes image) ≡ bytes
list_of-same Root bytes image = refl
list_of-same A bytes image = refl
list_of-same B bytes image = refl

pub list_of-other : (ext other : Extent) (bytes : List ℕ) (image : Image) → other ≢ ext → list_of other (with_list ext bytes image) ≡ list_of other image
list_of-other Root Root bytes image apart = absurd (apart refl)
list_of-other Root A bytes image apart = refl
list_of-other Root B bytes image apart = refl
list_of-other A Root bytes image apart = refl
list_of-other A A bytes image apart = absurd (apart refl)
list_of-other A B bytes image apart = refl
list_of-other B Root bytes image apart = refl
list_of-other B A bytes image apart = refl
list_of-other B B bytes image apart = absurd (apart refl)

pub pending_of-same : (ext : Extent) (pending : Pending) (unsynced : Unsynced) → pending_of ext (with_pending ext pending unsynced) ≡ pending
pending_of-same Root pending unsynced = refl
pending_of-same A pending unsynced = refl
pending_of-same B pending unsynced = refl

pub pending_of-other : (ext other : Extent) (pending : Pending) (unsynced : Unsynced) → other ≢ ext
    → pending_of other (with_pending ext pending unsynced) ≡ pending_of other unsynced
pending_of-other Root Root pending unsynced apart = absurd (apart refl)
pending_of-other Root A pending unsynced apart = refl
pending_of-other Root B pending unsynced apart = refl
pending_of-other A Root pending unsynced apart = refl
pending_of-other A A pending unsynced apart = absurd (apart refl)
pending_of-other A B pending unsynced apart = refl
pending_of-other B Root pending unsynced apart = refl
pending_of-other B A pending unsynced apart = refl
pending_of-other B B pending unsynced apart = absurd (apart refl)

pub pending_of-settled : (ext : Extent) (image : Image) → pending_of ext (all_settled image) ≡ settled (list_of ext image)
pending_of-settled Root image = refl
pending_of-settled A image = refl
pending_of-settled B image = refl
