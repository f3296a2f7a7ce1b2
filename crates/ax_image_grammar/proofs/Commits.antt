-- A commit keeps the grammar, and a write of documents keeps policies apart.
use Rattle.std.proofs.Common.{◌≡◌, ℕ, ◌+◌, List, [], ◌∷◌, ◌++◌, length, inl, inr, ⊎_elim}
use Rattle.std.proofs.Common.{refl, sym, ap, subst, ◌∙◌}
use Rattle.std.specs.Prelude.{Some}
use Rattle.std.specs.List.{AllByRecursion}
use Rattle.std.proofs.lemmas.Bool.{cases_eq}
use Rattle.std.specs.FinMap as map
use Rattle.ax_disk.specs.model.Image.{Image}
use Rattle.ax_pages.specs.Area.{frames_bytes}
use Rattle.ax_pages.proofs.LastPart.{get_inserted, get_not_inserted, get_removed, get_not_removed}
use Rattle.ax_area.specs.declared.root.Counting.{Counting}
use Rattle.ax_area.proofs.OneRoot.{counts_from}
use Rattle.ax_area.specs.Changes.{Change}
use Rattle.ax_area.specs.Changes as change
use Rattle.ax_area.specs.Contents.{Contents, Stored, stored, no_contents, with_change}
use Rattle.ax_area.specs.Contents.{after_changes}
use Rattle.ax_area.specs.Told.{Told, changes_of, TellOn, Begins, Lead}
use Rattle.ax_area.specs.Image.{IsLive}
use Rattle.ax_area.specs.Writing.{written_bytes, told_from}
use Rattle.ax_area.proofs.OneTelling.{same_some, some_or_none, first_step}
use Rattle.ax_area.proofs.KeptSo.{made}
use Rattle.ax_area.proofs.Writing.{written_tells, same_changes}
use Rattle.ax_area.proofs.OneMore.{one_frame_more}
use Rattle.ax_image_grammar.specs.Payloads.{IsReadable}
use Rattle.ax_image_grammar.specs.Table.{policy_text, IsUsed, IsTaken, AreApart}
use Rattle.ax_image_grammar.specs.Grammar.{AreReadable, IsGrammatical}
use Rattle.ax_image_grammar.specs.Writes.{MayCommit, KeepsTo}

all_joined : (newest : ℕ) (told more : List Told) → AreReadable newest told
    → AreReadable newest more → AreReadable newest (told ++ more)
all_joined newest [] more all others = others
all_joined newest (t ∷ told) more all others =
    (all.0, all_joined newest told more all.1 others)

pub commits : (newest : ℕ) (slot : Counting) (frames : List (List ℕ)) (told : List Told)
    (changes : List Change) (before after : Contents) (new : Image)
    → TellOn slot.version frames 0 told → Lead told no_contents before
    → AreReadable newest told
    → MayCommit newest slot.version changes before after
    → IsLive newest slot (frames ++ written_bytes changes ∷ []) new
    → IsGrammatical newest slot.version
    (told ++ told_from (length (frames_bytes frames) + 9) changes) after new
commits newest slot frames told changes before after new tell lead readable may live =
    let at : ℕ = length (frames_bytes frames) + 9 in
    let more : List Told = told_from at changes in
    let same : changes ≡ changes_of more = sym (same_changes at changes) in
    let begins : Begins slot.version (written_bytes changes) at more [] =
    written_tells slot.version at changes (counts_from new.root slot live.counts) may.can in
    record {
      says = one_frame_more newest slot frames (written_bytes changes) told more before after new
          tell lead begins (subst (λ cs. after_changes cs before ≡ Some after) same may.lead) live;
      readable = all_joined newest told more readable
          (subst (AllByRecursion (IsReadable newest)) same may.readable);
      apart = may.apart;
    }

-- ---- policies stay apart

-- no policy is taken that was not, and each has the same text
record TakesNoMore (before after : Contents) : Type 0 where
  now : after.policy_now ≡ before.policy_now
  texts : after.policies ≡ before.policies
  used : (policy : ℕ) → IsTaken policy after → IsTaken policy before

no_more : (change : Change) (before : Contents) → KeepsTo before.policy_now change
    → TakesNoMore before (with_change change before)
no_more (change.Meta numbers) before keeps = record {
  now = keeps;
  texts = refl;
  used = λ policy taken. ⊎_elim (λ (is : policy ≡ numbers.policy). inl (is ∙ keeps))
      (λ (u : IsUsed policy (with_change (change.Meta numbers) before)).
      inr (record {
        number = u.number;
        document = u.document;
        held = u.held;
        indexed_by = u.indexed_by;
      })) taken;
}
no_more (change.Policy number text) before keeps = absurd keeps
no_more (change.Document number written) before keeps = record {
  now = refl;
  texts = refl;
  used = λ policy taken. ⊎_elim (λ (is : policy ≡ before.policy_now). inl is)
      (λ (u : IsUsed policy
      (with_change (change.Document number written) before)). by_number policy u) taken;
}
  where
    by_number : (policy : ℕ) → IsUsed policy (with_change (change.Document number written) before)
        → IsTaken policy before
    by_number policy u =
        let new : Stored = stored number written in
        ⊎_elim
        (λ (same : u.number ≡ number).
        let is : new ≡ u.document =
        same_some new u.document (sym (get_inserted before.documents number new)
        ∙ ap (map.get (map.insert before.documents number new)) (sym same) ∙ u.held) in
        inl (sym u.indexed_by ∙ ap (λ (d : Stored). d.policy) (sym is) ∙ keeps))
        (λ (apart : u.number ≡ number → ⊥).
        inr (record {
          number = u.number;
          document = u.document;
          held = sym
              (get_not_inserted before.documents number u.number new apart) ∙ u.held;
          indexed_by =
              u.indexed_by;
        }))
        (cases_eq u.number number)
no_more (change.Gone number) before keeps = record {
  now = refl;
  texts = refl;
  used = λ policy taken. ⊎_elim (λ (is : policy ≡ before.policy_now). inl is)
      (λ (u : IsUsed policy (with_change (change.Gone number) before)). by_number policy u) taken;
}
  where
    by_number : (policy : ℕ) → IsUsed policy (with_change (change.Gone number) before)
        → IsTaken policy before
    by_number policy u =
        ⊎_elim
        (λ (same : u.number ≡ number).
        absurd (some_or_none u.document (sym (get_removed before.documents number)
        ∙ ap (map.get (map.remove before.documents number)) (sym same) ∙ u.held)))
        (λ (apart : u.number ≡ number → ⊥).
        inr (record {
          number = u.number;
          document = u.document;
          held = sym
              (get_not_removed before.documents number u.number apart) ∙ u.held;
          indexed_by =
              u.indexed_by;
        }))
        (cases_eq u.number number)
no_more (change.Base page payload) before keeps = record {
  now = refl;
  texts = refl;
  used = λ policy taken. ⊎_elim (λ (is : policy ≡ before.policy_now). inl is)
      (λ (u : IsUsed policy (with_change (change.Base page payload) before)).
      inr (record {
        number = u.number;
        document = u.document;
        held = u.held;
        indexed_by = u.indexed_by;
      })) taken;
}
no_more (change.Delta page payload) before keeps = record {
  now = refl;
  texts = refl;
  used = λ policy taken. ⊎_elim (λ (is : policy ≡ before.policy_now). inl is)
      (λ (u : IsUsed policy (with_change (change.Delta page payload) before)).
      inr (record {
        number = u.number;
        document = u.document;
        held = u.held;
        indexed_by = u.indexed_by;
      })) taken;
}

apart_more : (before after : Contents) → TakesNoMore before after → AreApart before → AreApart after
apart_more before after less apart a b ta tb same =
    let text : (n : ℕ) → policy_text n after ≡ policy_text n before = λ n. ap
    (λ policies. policy_text n (record before { policies = policies })) less.texts in
    apart a b (less.used a ta) (less.used b tb) (sym (text a) ∙ same ∙ text b)

pub apart_after : (changes : List Change) (before after : Contents) → after_changes changes before
    ≡ Some after → AllByRecursion (KeepsTo before.policy_now) changes → AreApart before
    → AreApart after
apart_after [] before after lead keeps apart = subst AreApart (same_some before after lead) apart
apart_after (change ∷ changes) before after lead keeps apart =
    let step = first_step change changes before after lead in
    let is = made change before step.between step.first in
    let less : TakesNoMore before step.between = subst (TakesNoMore before) (sym is.is)
    (no_more change before keeps.0) in
    apart_after changes step.between after step.others
    (subst (λ now. AllByRecursion (KeepsTo now) changes) (sym less.now) keeps.1)
    (apart_more before step.between less apart)
