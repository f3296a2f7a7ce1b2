-- A write of a document that takes the policy now keeps policies apart, and so does a deletion.
use Rattle.std.proofs.Common.{◌≡◌, ℕ, inl, inr, ⊎_elim, sym, ap, ◌∙◌}
use Rattle.std.specs.Prelude.{Some, None}
use Rattle.std.specs.FinMap as map
use Rattle.std.proofs.lemmas.Bool.{cases_eq}
use Rattle.ax_area.specs.Contents.{Contents, Stored}
use Rattle.ax_pages.proofs.LastPart.{get_inserted, get_not_inserted, get_removed, get_not_removed}
use Rattle.ax_image_grammar.specs.Table.{policy_text, IsUsed, IsTaken, AreApart}

same_document : (x y : Stored) → Some x ≡ Some y → x ≡ y
same_document x y is = cc

-- the document of a number is written, under the policy now, and the policies are as they were
module _ (old new : Contents) (number : ℕ) (written : Stored)
    (by_now : written.policy ≡ old.policy_now)
    (now : new.policy_now ≡ old.policy_now)
    (texts : new.policies ≡ old.policies)
    (documents : new.documents ≡ map.insert old.documents number written) where
  used_before : (policy : ℕ) → IsUsed policy new → IsTaken policy old
  used_before policy u =
      let held : map.get (map.insert old.documents number written) u.number ≡ Some u.document =
      ap (λ docs. map.get docs u.number) (sym documents) ∙ u.held in
      ⊎_elim
      (λ (same : u.number ≡ number).
      let is : written ≡ u.document =
      same_document written u.document (sym (get_inserted old.documents number written)
      ∙ ap (map.get (map.insert old.documents number written)) (sym same) ∙ held) in
      inl (sym (ap (λ (d : Stored). d.policy) is ∙ u.indexed_by) ∙ by_now))
      (λ (apart : u.number ≡ number → ⊥).
      inr (record {
        number = u.number;
        document = u.document;
        held = sym (get_not_inserted old.documents number u.number written apart) ∙ held;
        indexed_by = u.indexed_by;
      }))
      (cases_eq u.number number)

  taken_before : (policy : ℕ) → IsTaken policy new → IsTaken policy old
  taken_before policy (inl is) = inl (is ∙ now)
  taken_before policy (inr u) = used_before policy u

  text_before : (policy : ℕ) → policy_text policy new ≡ policy_text policy old
  text_before policy = λ i. policy_text policy (record old { policies = texts i })

  pub apart_with : AreApart old → AreApart new
  apart_with apart a b ta tb same =
      apart a b (taken_before a ta) (taken_before b tb) (sym (text_before a) ∙ same ∙ text_before b)

-- the document of a number is gone
module _ (old : Contents) (number : ℕ) where
  abbrev without : Contents
  without = record old { documents = map.remove old.documents number }

  none_held : (x : Stored) → map.get (map.remove old.documents number) number ≡ Some x → ⊥
  none_held x held = let gone : map.get (map.remove old.documents number) number ≡ None = get_removed old.documents number in cc

  used_still : (policy : ℕ) → IsUsed policy without → IsUsed policy old
  used_still policy u =
      ⊎_elim
      (λ (same : u.number ≡ number).
      absurd (none_held u.document (ap (map.get (map.remove old.documents number)) (sym same) ∙ u.held)))
      (λ (apart : u.number ≡ number → ⊥). record {
        number = u.number;
        document = u.document;
        held = sym (get_not_removed old.documents number u.number apart) ∙ u.held;
        indexed_by = u.indexed_by;
      })
      (cases_eq u.number number)

  taken_still : (policy : ℕ) → IsTaken policy without → IsTaken policy old
  taken_still policy (inl is) = inl is
  taken_still policy (inr u) = inr (used_still policy u)

  pub apart_without : AreApart old → AreApart without
  apart_without apart a b ta tb same = apart a b (taken_still a ta) (taken_still b tb) same
