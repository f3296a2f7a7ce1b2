-- What a write does to the entry of a number.
use Rattle.std.proofs.Common.{◌≡◌, ℕ, List, map, true, false, true≢false, cond, Some, None, refl, sym, ap, ◌∙◌, subst, nat_eq}
use Rattle.std.proofs.lemmas.Bool.{eq-eqb, eqb-true}
use Rattle.ax_tree.specs.declared.tree.Tree.{Tree}
use Rattle.ax_container.specs.Container.{Entry, Container, entry_at, entry_of, IsSound}
use Rattle.ax_container.specs.Writes.{rewritten, replaced, new_entry, created, deleted}
use Rattle.ax_container.proofs.ByNumber.{AreById, by_number, found_by_number, given, given_here}
use Rattle.ax_container.proofs.ByNumber.{given_other, numbered_behind, replaced_by_number, deleted_by_number, without_number}

pub created_at : (c : Container) (tree : Tree) (id : List ℕ) (n : ℕ) → IsSound c
    → entry_at n (created id tree c).entries
    ≡ cond (nat_eq c.next_number n) (Some (new_entry id tree c)) (entry_at n c.entries)
created_at c tree id n sound = numbered_behind c.entries 0 n (new_entry id tree c) sound.numbers

entries_of_id : (id : List ℕ) (c : Container) (found : Entry) → IsSound c → entry_of id c ≡ Some found
    → AreById id found.number c.entries
entries_of_id id c found sound is =
    by_number id c.entries 0 c.next_number found sound.numbers sound.distinct is

pub entry_there : (c : Container) (id : List ℕ) (found : Entry) → IsSound c → entry_of id c ≡ Some found
    → entry_at found.number c.entries ≡ Some found
entry_there c id found sound is =
    sym (found_by_number id c.entries found.number (entries_of_id id c found sound is)) ∙ is

pub replaced_at : (c : Container) (tree : Tree) (id : List ℕ) (found : Entry) (n : ℕ) → IsSound c
    → entry_of id c ≡ Some found
    → entry_at n (replaced id tree c).entries
    ≡ cond (nat_eq found.number n) (Some (rewritten tree c.policy found)) (entry_at n c.entries)
replaced_at c tree id found n sound is =
    ap (entry_at n) (replaced_by_number id tree c.policy found.number c.entries (entries_of_id id c found sound is))
    ∙ elim (nat_eq found.number n) as
    (λ b. nat_eq found.number n ≡ b → entry_at n (map (given found.number tree c.policy) c.entries)
    ≡ cond b (Some (rewritten tree c.policy found)) (entry_at n c.entries)) [
      | true ↦ λ same.
          subst (λ k. entry_at k (map (given found.number tree c.policy) c.entries)
          ≡ Some (rewritten tree c.policy found)) (eqb-true found.number n same)
          (given_here found.number tree c.policy c.entries found (entry_there c id found sound is))
      | false ↦ λ differs.
          given_other found.number tree c.policy n c.entries
          (λ same. true≢false (sym (eq-eqb found.number n (sym same)) ∙ differs))
    ] refl

pub deleted_at : (c : Container) (id : List ℕ) (found : Entry) (n : ℕ) → IsSound c
    → entry_of id c ≡ Some found
    → entry_at n (deleted id c).entries ≡ cond (nat_eq found.number n) None (entry_at n c.entries)
deleted_at c id found n sound is =
    ap (entry_at n) (deleted_by_number id found.number c.entries (entries_of_id id c found sound is))
    ∙ without_number found.number n c.entries
