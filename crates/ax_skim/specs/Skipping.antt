-- How the canonical text of a tree is passed over without the tree: where a text in it ends, and
-- where a value ends. Nothing is said of bytes that are no canonical text.
use Rattle.std.specs.Prelude.{ℕ, suc, ◌-◌, ◌==◌, List, [], ◌∷◌, Bool, true, false, if◌then◌else◌, Option, Some, None}
use Rattle.ax_skim.specs.declared.role.ByteRole.{ByteRole}
use Rattle.ax_skim.specs.declared.role.ByteRole.TheVariants.{Quote, Backslash, Opening, Closing, Comma, Other}
use Rattle.ax_skim.specs.Roles.{role_of}

-- one byte of a text: `escaped`, that it stands behind a backslash
abbrev pub text_step : Bool → ByteRole → List ℕ → (Bool → Option (List ℕ)) → Option (List ℕ)
text_step true role after next = next false
text_step false Quote after next = Some after
text_step false Backslash after next = next true
text_step false Opening after next = next false
text_step false Closing after next = next false
text_step false Comma after next = next false
text_step false Other after next = next false

-- what follows the quote that closes a text
abbrev pub past_text : Bool → List ℕ → Option (List ℕ)
past_text escaped [] = None
past_text escaped (byte ∷ after) =
    text_step escaped (role_of byte) after (λ next. past_text next after)

-- where a byte stands
pub data Place : Type 0 where
  outside : Place
  inside : Place
  escaped : Place

-- one byte, behind as many brackets as `depth`; `here` begins with it
abbrev pub step : Place → ByteRole → ℕ → List ℕ → (Place → ℕ → Option (List ℕ)) → Option (List ℕ)
step outside Quote depth here next = next inside depth
step outside Backslash depth here next = next outside depth
step outside Opening depth here next = next outside (suc depth)
step outside Closing depth here next =
    if depth == 0 then Some here else next outside (depth - 1)
step outside Comma depth here next = if depth == 0 then Some here else next outside depth
step outside Other depth here next = next outside depth
step inside Quote depth here next = next outside depth
step inside Backslash depth here next = next escaped depth
step inside Opening depth here next = next inside depth
step inside Closing depth here next = next inside depth
step inside Comma depth here next = next inside depth
step inside Other depth here next = next inside depth
step escaped role depth here next = next inside depth

-- what is left where the brackets of `depth` are closed: from the comma or the closing bracket on
-- that follows the value
abbrev pub past : Place → ℕ → List ℕ → Option (List ℕ)
past place depth [] = None
past place depth (byte ∷ after) =
    step place (role_of byte) depth (byte ∷ after) (λ p d. past p d after)

-- what follows the value at the front, or the member
abbrev pub past_value : List ℕ → Option (List ℕ)
past_value = past outside 0
