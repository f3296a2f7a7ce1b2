-- What is known of a choice, of a step after a step, and of a step that changes what was found.
use Rattle.std.proofs.Common.{◌≡◌, Bool, true, false, cond, Option, Some, None, refl, ◌&&◌}
use Rattle.std.specs.Prelude.{option_and_then}
use Rattle.std.specs.Option.{option_map}

-- what is found where a test holds
pub chosen : {A : Type 0} (b : Bool) (x v : A) → cond b (Some x) None ≡ Some v
    → (b ≡ true) × (x ≡ v)
chosen true x v e = (refl, cc)
chosen false x v e = absurd (cc)

-- what is found where a test does not hold
pub else_chosen : {A : Type 0} (b : Bool) (x v : A) → cond b None (Some x) ≡ Some v
    → (b ≡ false) × (x ≡ v)
else_chosen true x v e = absurd (cc)
else_chosen false x v e = (refl, cc)

pub both : (a b : Bool) → (a && b) ≡ true → (a ≡ true) × (b ≡ true)
both true b e = (refl, e)
both false b e = absurd (cc)

pub record ThenFound {A B : Type 0} (f : A → Option B) (o : Option A) (v : B) : Type 0 where
  pub x : A
  pub first : o ≡ Some x
  pub then : f x ≡ Some v

pub then_found : {A B : Type 0} (f : A → Option B) (o : Option A) (v : B)
    → option_and_then f o ≡ Some v → ThenFound f o v
then_found f None v e = absurd (cc)
then_found f (Some x) v e = record { x = x; first = refl; then = e }

pub record MapFound {A B : Type 0} (f : A → B) (o : Option A) (v : B) : Type 0 where
  pub x : A
  pub first : o ≡ Some x
  pub then : f x ≡ v

pub map_found : {A B : Type 0} (f : A → B) (o : Option A) (v : B) → option_map f o ≡ Some v
    → MapFound f o v
map_found f None v e = absurd (cc)
map_found f (Some x) v e = record { x = x; first = refl; then = cc }
