-- The changes that exchange the pairs of a document for those of another have short terms.
use Rattle.std.proofs.Common.{◌≡◌, ℕ, zero, suc, ◌<◌, ◌≤◌, Bool, true, false, List, [], ◌∷◌, length, Option, Some, None, get_or, arith, refl}
use Rattle.std.specs.Prelude.{IfSome}
use Rattle.ax_delta.specs.declared.change.Change.{Change}
use Rattle.ax_index.specs.DeltaSizes.{HaveShortTerms}
use Rattle.ax_keep.specs.Exchanges.{Exchanges, IsNetted}
use Rattle.ax_keep.specs.Owned.{Owns}
use Rattle.ax_storable.specs.Storable.{IsStorable}
use Rattle.ax_pair.specs.declared.pair.Pair.{Pair}
use Rattle.ax_policy.specs.Normal.{normal_tree}
use Rattle.ax_policy.specs.Policies.{policy_of}
use Rattle.ax_policy.specs.Table.{Table, policy_at}
use Rattle.ax_policy.specs.declared.policy.Policy.{Policy}
use Rattle.ax_tree.specs.Document.{IsDocument}
use Rattle.ax_tree.specs.declared.tree.Tree.{Tree}
use Rattle.ax_table.specs.TableAgrees.{ArePolicies}
use Rattle.ax_write.specs.Exchanged.{IsExchanged}
use Rattle.ax_write.proofs.ShortTerms.{owned_short}

-- whatever stands for what is not there
same_at : (changes : List Change) (k : ℕ) (d e : Change) → k < length changes → get_or changes k d ≡ get_or changes k e
same_at [] k d e there = absurd (omega (arith, there))
same_at (first ∷ changes) zero d e there = refl
same_at (first ∷ changes) (suc k) d e there = same_at changes k d e (omega (arith, there))

abbrev IsShort : Pair → Type 0
IsShort pair = length pair.term ≤ 4096

netted_short : (Old New : Pair → Type 0) (add : Bool) (pair : Pair) → IsNetted Old New add pair
    → ((p : Pair) → Old p → IsShort p) → ((p : Pair) → New p → IsShort p) → IsShort pair
netted_short Old New true pair is old new = new pair is.0
netted_short Old New false pair is old new = old pair is.0

changes_short : (Old New : Pair → Type 0) (changes : List Change) → Exchanges Old New changes
    → ((p : Pair) → Old p → IsShort p) → ((p : Pair) → New p → IsShort p) → HaveShortTerms changes
changes_short Old New changes exchanges old new = λ k d there.
    let change : Change = get_or changes k d in
    netted_short Old New change.add change.pair (exchanges.netted change (k, there, same_at changes k change d there)) old new

owns_short : (number : ℕ) (policy : Policy) (document : Option Tree) (pair : Pair) → policy_of (normal_tree policy) ≡ Some policy
    → IfSome document IsStorable → Owns number policy document pair → IsShort pair
owns_short number policy None pair is storable owned = absurd owned.1
owns_short number policy (Some tree) pair is storable owned = owned_short number policy (normal_tree policy) tree pair is storable owned

pub documents : (document : Option Tree) → IfSome document IsStorable → IfSome document IsDocument
documents None storable = tt
documents (Some tree) storable = storable.document

module _ (table : Table) (number before after : ℕ) (old new : Option Tree) (old_under new_under : Policy) (policies : ArePolicies table)
    (before_is : policy_at table before ≡ Some old_under) (after_is : policy_at table after ≡ Some new_under)
    (old_fits : IfSome old IsStorable) (new_fits : IfSome new IsStorable) where
  pub exchanged : (changes : List Change) → Exchanges (Owns number old_under old) (Owns number new_under new) changes
      → IsExchanged table number before old after new changes
  exchanged changes exchanges = record {
    old_under = old_under;
    new_under = new_under;
    before_is = before_is;
    after_is = after_is;
    exchanges = exchanges;
    short = changes_short (Owns number old_under old) (Owns number new_under new) changes exchanges
        (λ p owned. owns_short number old_under old p (policies before old_under before_is) old_fits owned)
        (λ p owned. owns_short number new_under new p (policies after new_under after_is) new_fits owned);
  }
