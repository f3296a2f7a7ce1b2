-- The table of a store that agrees with its disk has policies under no numbers but those from 0 to 8.
-- `FewNumbers` of ax_skips is the same over a crate that this one does not stand on.
use Rattle.std.proofs.Common.{◌≡◌, ◌≤◌, ℕ, true, Bool, List, [], ◌∷◌, Option, Some, None, sym, ap, subst, ◌∙◌, ⊎_elim, arith}
use Rattle.std.specs.Prelude.{is_some, ◌==◌}
use Rattle.std.proofs.lemmas.Bool.{cases_eq, eqb-true, leb-true, or_cases}
use Rattle.std.specs.FinMap as map
use Rattle.std.specs.Ordering.{nat_cmp}
use Rattle.ax_cache.specs.Pages.{CachedPages}
use Rattle.ax_disk.specs.model.Moments.{History}
use Rattle.ax_frame.specs.Part.{PartValue}
use Rattle.ax_pages.proofs.LastPart.{get_not_inserted, held, passed}
use Rattle.ax_pages.proofs.OneContents.{first_step, same_some}
use Rattle.ax_pages.specs.AfterPart.{after_base, after_delta, after_kind, after_parts, kind_of, last_policy}
use Rattle.ax_pages.specs.Contents as log
use Rattle.ax_pages.specs.Leads.{LeadOn}
use Rattle.ax_pages.specs.declared.page.Kind.{Kind}
use Rattle.ax_pages.specs.declared.page.Kind.TheVariants as kind
use Rattle.ax_policy.specs.Table.{Table, policy_at}
use Rattle.ax_policy.specs.declared.policy.Policy.{Policy}
use Rattle.ax_store.proofs.LoadLemmas.{lead_on_of}
use Rattle.ax_store.specs.Loading.{nothing_kept}
use Rattle.ax_store.specs.Store.{Agrees, store_contents, store_parts}
use Rattle.ax_store.specs.declared.store.Store.{Store}
use Rattle.ax_table.specs.TableAgrees.{TableAgrees}

abbrev pub HasFewNumbers : Table → Type 0
HasFewNumbers table = (number : ℕ) (policy : Policy) → policy_at table number ≡ Some policy → number ≤ 8

-- no policy has a number above the last
abbrev HasLast : log.Contents → Type 0
HasLast contents = (number : ℕ) → map.contains_key contents.policies number ≡ true → number ≤ last_policy

no_some : {A : Type 0} (a : A) → None ≡ Some a → ⊥
no_some a e = cc

put_last : (key : ℕ) (payload : List ℕ) (before : log.Contents) → key ≤ last_policy → HasLast before
    → HasLast (record before { policies = map.insert before.policies key payload })
put_last key payload before few last number there =
    ⊎_elim
    (λ (same : number ≡ key). subst (λ n. n ≤ last_policy) (sym same) few)
    (λ (apart : number ≡ key → ⊥). last number (ap is_some (sym (get_not_inserted before.policies key number payload apart)) ∙ there))
    (cases_eq number key)

kind_last : (k : Option Kind) (key : ℕ) (payload : List ℕ) (before after : log.Contents) → after_kind k key payload before ≡ Some after
    → HasLast before → HasLast after
kind_last (Some kind.Meta) key payload before after lead last =
    subst HasLast (sym (passed _ (record before { meta = Some payload }) after lead)) last
kind_last (Some kind.Policy) key payload before after lead last =
    subst HasLast (sym (passed _ (record before { policies = map.insert before.policies key payload }) after lead))
    (put_last key payload before
    (leb-true key last_policy (held (record before { policies = map.insert before.policies key payload }) after lead)) last)
kind_last (Some kind.Document) key payload before after lead last =
    subst HasLast (sym (passed _ (record before { documents = map.insert before.documents key payload }) after lead)) last
kind_last (Some kind.Gone) key payload before after lead last =
    subst HasLast (sym (passed _ (record before { documents = map.remove before.documents key }) after lead)) last
kind_last (Some kind.Base) key payload before after lead last =
    subst HasLast (sym (passed _ (record before { terms = after_base key payload before.terms }) after lead)) last
kind_last (Some kind.Delta) key payload before after lead last =
    subst HasLast (sym (passed _ (record before { terms = after_delta key payload before.terms }) after lead)) last
kind_last None key payload before after lead last = absurd (no_some after lead)

parts_last : (parts : List PartValue) (before after : log.Contents) → after_parts parts before ≡ Some after → HasLast before → HasLast after
parts_last [] before after lead last = subst HasLast (same_some before after lead) last
parts_last (part ∷ parts) before after lead last =
    let step = first_step part parts before after lead in
    parts_last parts step.between after step.others
    (kind_last (kind_of part.kind) part.key part.payload before step.between step.first last)

frames_last : (frames : List (List ℕ)) (before after : log.Contents) → LeadOn frames before after → HasLast before → HasLast after
frames_last [] before after on last = subst HasLast on last
frames_last (frame ∷ frames) before after (between, first, others) last =
    frames_last frames between after others (parts_last first.parts before between first.lead last)

none_last : HasLast log.no_contents
none_last number there = absurd (not_there (map.get log.no_contents.policies number) (map.get-empty nat_cmp number) there)
  where
    not_there : (found : Option (List ℕ)) → found ≡ None → is_some found ≡ true → ⊥
    not_there None is there = cc
    not_there (Some text) is there = cc

few_zero : (number : ℕ) → number ≡ 0 → number ≤ last_policy
few_zero number is = omega (arith, is)

pub few_numbers : {C : Type 0} (pages : C → CachedPages) (store : Store C) (history : History) (honest : Bool) (table : Table)
    → Agrees pages store history → TableAgrees honest table (store_contents store) → HasFewNumbers table
few_numbers pages store history honest table agrees table_agrees number policy at =
    let on = lead_on_of agrees.frames 0 nothing_kept store.pages agrees.takes in
    let last : HasLast (store_parts store) = frames_last agrees.frames log.no_contents (store_parts store) on none_last in
    ⊎_elim {C = number ≤ 8}
    (λ (zero : (number == 0) ≡ true). few_zero number (eqb-true number 0 zero))
    (λ there. last number there)
    (or_cases (number == 0) _ (table_agrees.only_given number policy at))
