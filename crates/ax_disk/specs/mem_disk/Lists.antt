-- Three lists in memory: the image that they are, and the room that they have.
use Rattle.std.specs.Prelude.{ℕ, min, max, length, vec_capacity}
use Rattle.ax_disk.specs.declared.lists.Lists.{Lists}
use Rattle.ax_disk.specs.model.Image.{Image}
use Rattle.ax_disk.specs.model.Pending.{AreBytes}

abbrev pub image_of : Lists → Image
image_of lists = record { root = lists.root.items; a = lists.a.items; b = lists.b.items }

-- each list has room for so many bytes
abbrev pub least_capacity : Lists → ℕ
least_capacity lists =
    min (vec_capacity lists.root) (min (vec_capacity lists.a) (vec_capacity lists.b))

-- the length of the longest list
abbrev pub greatest_length : Image → ℕ
greatest_length image = max (length image.root) (max (length image.a) (length image.b))

pub record IsOfBytes (image : Image) : Type 0 where
  pub root : AreBytes image.root
  pub a : AreBytes image.a
  pub b : AreBytes image.b
