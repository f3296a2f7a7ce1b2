-- Each write of a document exchanges the pairs of one entry: those of every other number are as before.
use Rattle.std.proofs.Common.{◌≡◌, ℕ, List, cond, refl, Option, Some, None, sym, ap, subst, ◌∙◌, ◌⊎◌, inl, inr, ⊎_elim, arith}
use Rattle.std.specs.Prelude.{◌↔◌}
use Rattle.std.proofs.lemmas.Bool.{cases_eq, eq-eqb}
use Rattle.ax_pair.specs.declared.pair.Pair.{Pair}
use Rattle.ax_tree.specs.declared.tree.Tree.{Tree}
use Rattle.ax_container.specs.Container.{Container, Entry, IsSound, entry_at, entry_of}
use Rattle.ax_container.specs.Writes.{created, deleted, new_entry, replaced, rewritten}
use Rattle.ax_container.proofs.ByNumber.{apart, none_from}
use Rattle.ax_container.proofs.Writing.{created_at, deleted_at, entry_there, replaced_at}
use Rattle.ax_image_pairs.specs.Pairs.{HasPair, HasTermOf}

-- the pair has that number, and a term of the entry, where there is one
abbrev pub OwnedBy : ℕ → Option Entry → Pair → Type 0
OwnedBy number entry pair = (pair.number ≡ number) × HasTermOf entry pair.term

-- the one container has the pairs of the other, the old ones taken out and the new ones put in
pub record ArePairsExchanged (before after : Container) (Old New : Pair → Type 0) : Type 0 where
  pub old : (pair : Pair) → Old pair → HasPair before pair
  pub made : (pair : Pair) → HasPair after pair ↔ (New pair ⊎ (HasPair before pair × (Old pair → ⊥)))

-- at one number there is another entry, or one where there was none, or none any more
pub one_entry : (before after : Container) (number : ℕ) (old new : Option Entry)
    → entry_at number before.entries ≡ old → entry_at number after.entries ≡ new
    → ((n : ℕ) → (n ≡ number → ⊥) → entry_at n after.entries ≡ entry_at n before.entries)
    → ArePairsExchanged before after (OwnedBy number old) (OwnedBy number new)
one_entry before after number old new was is others = record {
  old = λ pair o. subst (λ e. HasTermOf e pair.term) (sym (ap (λ n. entry_at n before.entries) o.0 ∙ was)) o.1;
  made = λ pair.
      ⊎_elim
      (λ (e : pair.number ≡ number).
      let now : entry_at pair.number after.entries ≡ new = ap (λ n. entry_at n after.entries) e ∙ is in
      let then : entry_at pair.number before.entries ≡ old = ap (λ n. entry_at n before.entries) e ∙ was in
      let there : HasPair after pair → OwnedBy number new pair ⊎ (HasPair before pair × (OwnedBy number old pair → ⊥)) =
      λ h. inl (e, subst (λ x. HasTermOf x pair.term) now h) in
      let back : OwnedBy number new pair ⊎ (HasPair before pair × (OwnedBy number old pair → ⊥)) → HasPair after pair =
      λ h. ⊎_elim
      (λ (n : OwnedBy number new pair). subst (λ x. HasTermOf x pair.term) (sym now) n.1)
      (λ (k : HasPair before pair × (OwnedBy number old pair → ⊥)).
      absurd (k.1 (e, subst (λ x. HasTermOf x pair.term) then k.0))) h in
      (there, back))
      (λ (other : pair.number ≡ number → ⊥).
      let same : entry_at pair.number after.entries ≡ entry_at pair.number before.entries = others pair.number other in
      let there : HasPair after pair → OwnedBy number new pair ⊎ (HasPair before pair × (OwnedBy number old pair → ⊥)) =
      λ h. inr (subst (λ x. HasTermOf x pair.term) same h, (λ o. other o.0)) in
      let back : OwnedBy number new pair ⊎ (HasPair before pair × (OwnedBy number old pair → ⊥)) → HasPair after pair =
      λ h. ⊎_elim
      (λ (n : OwnedBy number new pair). absurd (other n.0))
      (λ (k : HasPair before pair × (OwnedBy number old pair → ⊥)). subst (λ x. HasTermOf x pair.term) (sym same) k.0) h in
      (there, back))
      (cases_eq pair.number number);
}

module _ (before : Container) (sound : IsSound before) where
  pub exchanged_created : (id : List ℕ) (tree : Tree)
      → ArePairsExchanged before (created id tree before)
      (OwnedBy before.next_number None) (OwnedBy before.next_number (Some (new_entry id tree before)))
  exchanged_created id tree =
      let next = before.next_number in
      one_entry before (created id tree before) next None (Some (new_entry id tree before))
      (none_from before.entries 0 next next sound.numbers (omega arith))
      (created_at before tree id next sound
      ∙ ap (λ b. cond b (Some (new_entry id tree before)) (entry_at next before.entries)) (eq-eqb next next refl))
      (λ n other. created_at before tree id n sound
      ∙ ap (λ b. cond b (Some (new_entry id tree before)) (entry_at n before.entries)) (apart next n (λ e. other (sym e))))

  module _ (id : List ℕ) (found : Entry) (is : entry_of id before ≡ Some found) where
    abbrev number : ℕ
    number = found.number

    pub exchanged_replaced : (tree : Tree)
        → ArePairsExchanged before (replaced id tree before)
        (OwnedBy number (Some found)) (OwnedBy number (Some (rewritten tree before.policy found)))
    exchanged_replaced tree =
        let new : Option Entry = Some (rewritten tree before.policy found) in
        one_entry before (replaced id tree before) number (Some found) new
        (entry_there before id found sound is)
        (replaced_at before tree id found number sound is
        ∙ ap (λ b. cond b new (entry_at number before.entries)) (eq-eqb number number refl))
        (λ n other. replaced_at before tree id found n sound is
        ∙ ap (λ b. cond b new (entry_at n before.entries)) (apart number n (λ e. other (sym e))))

    pub exchanged_deleted : ArePairsExchanged before (deleted id before) (OwnedBy number (Some found)) (OwnedBy number None)
    exchanged_deleted =
        let none : Option Entry = None in
        one_entry before (deleted id before) number (Some found) none
        (entry_there before id found sound is)
        (deleted_at before id found number sound is
        ∙ ap (λ b. cond b none (entry_at number before.entries)) (eq-eqb number number refl))
        (λ n other. deleted_at before id found n sound is
        ∙ ap (λ b. cond b none (entry_at n before.entries)) (apart number n (λ e. other (sym e))))
