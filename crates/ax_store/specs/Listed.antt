-- A directory as contracts see it: the payloads and the offsets of the numbers that are held, and how
-- many numbers may still be put without memory.
-- It is this project's own; it comes from no public document.
use Rattle.std.specs.Prelude.{◌≡◌, ℕ, ◌<◌, None, refl, IsTrue}
use Rattle.std.specs.Coded.{Coded, code_by, coded×, coded_ℕ}
use Rattle.std.specs.FinMap as map
use Rattle.std.specs.Ordering.{nat_cmp}
use Rattle.ax_pages.specs.Contents.{Numbered}
use Rattle.ax_pages.specs.ContentsCode.{numbered_code}
use Rattle.ax_store.specs.Rows.{Offsets}

pub record Listed : Type 0 where
  pub payloads : Numbered
  pub offsets : Offsets
  pub spare : ℕ

abbrev pub listed_code : Coded Listed
listed_code = code_by (Numbered × (Offsets × ℕ)) (coded× numbered_code (coded× (map.code coded_ℕ coded_ℕ) coded_ℕ))
    (λ listed. (listed.payloads, (listed.offsets, listed.spare)))
    (λ fields. record { payloads = fields.0; offsets = fields.1.0; spare = fields.1.1 }) (λ _. refl)

-- the least number above another that is held
pub record IsNextAfter {A : Type 0} (held_by : map.FinMap nat_cmp A) (after number : ℕ) : Type 0 where
  pub above : after < number
  pub held : IsTrue (map.contains_key held_by number)
  pub least : (between : ℕ) → after < between → between < number → map.get held_by between ≡ None
