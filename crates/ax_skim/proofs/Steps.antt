-- A text that begins within a value is passed over.
use Rattle.std.proofs.Common.{◌≡◌, ℕ, List, [], ◌∷◌, Bool, true, false, refl}
use Rattle.std.specs.Option.{option_and_then}
use Rattle.ax_skim.specs.declared.role.ByteRole.{ByteRole}
use Rattle.ax_skim.specs.declared.role.ByteRole.TheVariants.{Quote, Backslash, Opening, Closing, Comma, Other}
use Rattle.ax_skim.specs.Roles.{role_of}
use Rattle.ax_skim.specs.Skipping.{text_step, past_text, Place, outside, inside, escaped, step, past}

abbrev place_in : Bool → Place
place_in false = inside
place_in true = escaped

-- one byte: what is so of the bytes behind it is so with it
text_byte : (e : Bool) (role : ByteRole) (depth : ℕ) (here after : List ℕ)
    → ((f : Bool) → past (place_in f) depth after ≡ option_and_then (past outside depth) (past_text f after))
    → step (place_in e) role depth here (λ p d. past p d after)
    ≡ option_and_then (past outside depth) (text_step e role after (λ f. past_text f after))
text_byte true role depth here after ih = ih false
text_byte false Quote depth here after ih = refl
text_byte false Backslash depth here after ih = ih true
text_byte false Opening depth here after ih = ih false
text_byte false Closing depth here after ih = ih false
text_byte false Comma depth here after ih = ih false
text_byte false Other depth here after ih = ih false

pub past_text_first : (e : Bool) (depth : ℕ) (after : List ℕ)
    → past (place_in e) depth after ≡ option_and_then (past outside depth) (past_text e after)
past_text_first false depth [] = refl
past_text_first true depth [] = refl
past_text_first e depth (byte ∷ after) =
    text_byte e (role_of byte) depth (byte ∷ after) after (λ f. past_text_first f depth after)

pub steps : (depth : ℕ) (after : List ℕ)
    → past inside depth after ≡ option_and_then (past outside depth) (past_text false after)
steps depth after = past_text_first false depth after
