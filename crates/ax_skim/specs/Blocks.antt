-- Blocks of 64 bytes of a canonical text, and which bytes of them are brackets outside of texts.
use Rattle.std.specs.Prelude.{◌≡◌, ◌≤◌, ◌<◌, ℕ, zero, suc, List, length, get_or, Bool, false, not, ◌&&◌, ◌||◌, ◌==◌}
use Rattle.json.specs.Scan.{test, xor}
use Rattle.ax_skim.specs.declared.blocks.Block.{Block}

abbrev pub is_opening : ℕ → Bool
is_opening byte = (byte == 123) || (byte == 91)

abbrev pub is_closing : ℕ → Bool
is_closing byte = (byte == 125) || (byte == 93)

-- whether a text goes on at that place, where `inside` says whether one does at the front; no byte
-- before it is a backslash
abbrev pub is_within : Bool → List ℕ → ℕ → Bool
is_within inside text zero = inside
is_within inside text (suc i) = xor (is_within inside text i) (get_or text i 0 == 34)

pub record IsBlock (inside : Bool) (text : List ℕ) (block : Block) : Type 0 where
  pub long : 64 ≤ length text
  pub plain : (i : ℕ) → i < 64 → (get_or text i 0 == 92) ≡ false
  pub opens : (i : ℕ) → i < 64 → test block.opens i ≡ is_opening (get_or text i 0)
  pub brackets : (i : ℕ) → i < 64
      → test block.brackets i
      ≡ (not (is_within inside text i) && (is_opening (get_or text i 0) || is_closing (get_or text i 0)))
  pub behind : block.inside ≡ is_within inside text 64
