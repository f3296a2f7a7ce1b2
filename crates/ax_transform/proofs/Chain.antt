-- A step is one replacement after another: over contents that hold a container, moves lead to what the container is after the step,
-- and exchange the pairs of the documents that they move.
use Rattle.std.proofs.Common.{◌≡◌, ◌⊎◌, inl, inr, ◌<◌, ◌≤◌, ℕ, suc, Bool, true, false, cond}
use Rattle.std.proofs.Common.{List, [], ◌∷◌, find, length, Some, sym, ap, ap₂, subst, ◌∙◌, arith, ⊎_elim}
use Rattle.std.specs.Prelude.{◌≢◌, IsTrue, option_and_then}
use Rattle.std.specs.FinMap as finite
use Rattle.std.specs.FinMap.{FinMap}
use Rattle.std.specs.Ordering.{nat_cmp}
use Rattle.std.specs.List.{AllByRecursion}
use Rattle.std.proofs.lemmas.Bool.{cases_eq, cases_lt}
use Rattle.ax_area.specs.Contents.{Contents, Stored, after_changes}
use Rattle.ax_container.specs.Container.{Container, Entry, IsStored, entry_of, has_id}
use Rattle.ax_container.specs.Reindexing.{stepped}
use Rattle.ax_container.specs.Writes.{replaced}
use Rattle.ax_container.proofs.ByNumber.{same_some}
use Rattle.ax_container.proofs.Soundness.{MayBe}
use Rattle.ax_image.proofs.Writing.{replaced_by}
use Rattle.ax_image.specs.Documents.{ContentsHold, LeadsTo}
use Rattle.ax_image.specs.WriteChanges.{replacing_changes}
use Rattle.ax_image_grammar.proofs.OneContainer.{same_policy}
use Rattle.ax_image_grammar.specs.Payloads.{IsTextOf}
use Rattle.ax_image_grammar.specs.Table.{policy_text}
use Rattle.ax_image_pairs.proofs.Exchanged.{ArePairsExchanged, exchanged_replaced}
use Rattle.ax_image_pairs.specs.Pairs.{HasPair}
use Rattle.ax_keep.specs.Owned.{Owns}
use Rattle.ax_pair.specs.declared.pair.Pair.{Pair}
use Rattle.ax_policy.specs.Table.{Table}
use Rattle.ax_policy.specs.declared.policy.Policy.{Policy}
use Rattle.ax_storable.specs.Storable.{IsStorable}
use Rattle.ax_table.specs.TableAgrees.{TableAgrees}
use Rattle.ax_tree.specs.Document.{document_id}
use Rattle.ax_tree.specs.declared.tree.Tree.{Tree}
use Rattle.ax_transform.proofs.FirstMoved.{step_id, step_more, step_one}
use Rattle.ax_transform.proofs.FirstShown.{IsShownFirst, first_of, same_tree, zero_none}
use Rattle.ax_transform.proofs.Mids.{IsMid, held_in, mid_next, move_leads, moved_changes, moved_in}
use Rattle.ax_transform.proofs.Trading.{NewOf, OldOf, apart}
use Rattle.ax_transform.specs.Moving.{AreNext, IsFirstBehind, IsMove, Move, numbers_of}

-- ---- one exchange of pairs, and another of other pairs behind it

module _ (a b c : Container) (O P N Q : Pair → Type 0) (one : ArePairsExchanged a b O N) (other : ArePairsExchanged b c P Q)
    (old_apart : (pair : Pair) → N pair → P pair → ⊥) (apart_from_new : (pair : Pair) → O pair → P pair → ⊥) where
  joined_old : (pair : Pair) → O pair ⊎ P pair → HasPair a pair
  joined_old pair =
      ⊎_elim (one.old pair)
      (λ (p : P pair).
      ⊎_elim (λ (n : N pair). absurd (old_apart pair n p)) (λ (kept : HasPair a pair × (O pair → ⊥)). kept.0)
      ((one.made pair).0 (other.old pair p)))

  joined_there : (pair : Pair) → HasPair c pair → (N pair ⊎ Q pair) ⊎ (HasPair a pair × ((O pair ⊎ P pair) → ⊥))
  joined_there pair has =
      ⊎_elim (λ (q : Q pair). inl (inr q))
      (λ (kept : HasPair b pair × (P pair → ⊥)).
      ⊎_elim (λ (n : N pair). inl (inl n))
      (λ (first : HasPair a pair × (O pair → ⊥)). inr (first.0, ⊎_elim first.1 kept.1))
      ((one.made pair).0 kept.0))
      ((other.made pair).0 has)

  joined_back : (pair : Pair) → (N pair ⊎ Q pair) ⊎ (HasPair a pair × ((O pair ⊎ P pair) → ⊥)) → HasPair c pair
  joined_back pair =
      ⊎_elim
      (λ (new : N pair ⊎ Q pair).
      ⊎_elim
      (λ (n : N pair). (other.made pair).1 (inr ((one.made pair).1 (inl n), old_apart pair n)))
      (λ (q : Q pair). (other.made pair).1 (inl q)) new)
      (λ (kept : HasPair a pair × ((O pair ⊎ P pair) → ⊥)).
      (other.made pair).1 (inr ((one.made pair).1 (inr (kept.0, (λ o. kept.1 (inl o)))), (λ p. kept.1 (inr p)))))

-- ---- an entry that was found is stored

all_stored : (id : List ℕ) (entries : List Entry) (found : Entry) → find (has_id id) entries ≡ Some found → AllByRecursion IsStored entries
    → IsStored found
all_stored id [] found is all = absurd cc
all_stored id (e ∷ es) found is all =
    elim (has_id id e) as (λ b. cond b (Some e) (find (has_id id) es) ≡ Some found → IsStored found) [
      | true ↦ λ same. subst IsStored (same_some e found same) all.0
      | false ↦ λ later. all_stored id es found later all.1
    ] is

may_be : (id : List ℕ) (tree : Tree) (policy : Policy) → document_id tree ≡ Some id → IsStorable tree → MayBe id tree policy
may_be id tree policy own storable = λ number named same. record { own_id = own ∙ ap Some (sym same); storable = storable }

module _ (honest : Bool) (trusted : IsTrue honest) (table : Table) (contents : Contents) (agrees : TableAgrees honest table contents) where
  abbrev now : ℕ
  now = table.current

  abbrev text_in : Contents → ℕ → List ℕ
  text_in c n = policy_text n c

  -- ---- one move

  module _ (after : ℕ) (mid : Contents) (c : Container) (move : Move) (of : IsMid now after contents mid) (hold : ContentsHold mid c)
      (first : IsFirstBehind contents now after move.number) (is : IsMove honest table contents move) where
    now_mid : now ≡ mid.policy_now
    now_mid = agrees.now ∙ sym of.policy_now

    abbrev held : finite.get mid.documents move.number ≡ Some is.stored
    held = held_in honest table contents after mid move of first.above is

    other : is.stored.policy ≢ mid.policy_now
    other same =
        let one : first.behind.stored ≡ is.stored = same_some first.behind.stored is.stored (sym first.behind.held ∙ is.held) in
        first.behind.other (ap (λ (d : Stored). d.policy) one ∙ same ∙ sym now_mid)

    earlier : (m : ℕ) (document : Stored) → m < move.number → finite.get mid.documents m ≡ Some document → document.policy ≡ mid.policy_now
    earlier m document less there =
        ⊎_elim
        (λ (above : after < m). first.between m document above less (sym (of.later m above) ∙ there) ∙ now_mid)
        (λ (up_to : m ≤ after).
        ⊎_elim
        (λ (zero : m ≡ 0). absurd (zero_none mid c hold document (sym (ap (finite.get mid.documents) zero) ∙ there)))
        (λ (some : m ≡ 0 → ⊥). of.under m document (omega (arith, some)) up_to there ∙ now_mid)
        (cases_eq m 0))
        (cases_lt after m)

    shown : IsShownFirst (text_in mid) mid.policy_now c.policy hold.show.policy c.entries (move.number, is.stored)
    shown = first_of mid c hold move.number is.stored held other earlier

    abbrev entry : Entry
    entry = shown.entry

    id_is : entry_of entry.id c ≡ Some entry
    id_is = step_id c entry hold.show.sound.distinct shown.found

    stored_is : IsStored entry
    stored_is = all_stored entry.id c.entries entry id_is hold.show.sound.stored

    tree_is : move.tree ≡ entry.tree
    tree_is = same_tree entry is.stored.text move.tree stored_is shown.text (is.text trusted)

    abbrev after_one : Container
    after_one = replaced entry.id move.tree c

    one_is : stepped 1 c ≡ after_one
    one_is = step_one c entry hold.show.sound.distinct shown.found ∙ ap (λ t. replaced entry.id t c) (sym tree_is)

    led : LeadsTo mid (replacing_changes entry.number mid.policy_now move.tree) after_one
    led =
        replaced_by mid c hold entry.id move.tree of.plain
        (may_be entry.id move.tree c.policy (ap document_id tree_is ∙ stored_is.own_id) is.storable) entry id_is

    new_is : led.new ≡ moved_in now move mid
    new_is =
        same_some led.new (moved_in now move mid)
        (sym led.lead ∙ ap₂ (λ n p. after_changes (replacing_changes n p move.tree) mid) (sym shown.number) (sym now_mid)
        ∙ ap (option_and_then (after_changes [])) (move_leads now move mid is.stored of.plain of.given held))

    pub hold_one : ContentsHold (moved_in now move mid) (stepped 1 c)
    hold_one =
        subst (ContentsHold (moved_in now move mid)) (sym one_is) (subst (λ (x : Contents). ContentsHold x after_one) new_is led.hold)

    -- ---- its pairs

    texts_same : (n : ℕ) → text_in contents n ≡ text_in mid n
    texts_same n =
        sym (ap (λ (p : FinMap nat_cmp (List ℕ)). policy_text n (record contents { policies = p })) of.policies)

    old_is : is.exchanged.old_under ≡ entry.indexed_by
    old_is =
        same_policy (text_in mid is.stored.policy) is.exchanged.old_under entry.indexed_by
        (subst (λ text. IsTextOf text is.exchanged.old_under) (texts_same is.stored.policy)
        (subst (λ n. IsTextOf (text_in contents n) is.exchanged.old_under) is.policy
        (agrees.texts trusted move.policy is.exchanged.old_under is.exchanged.before_is))) shown.under

    new_policy : is.exchanged.new_under ≡ c.policy
    new_policy =
        same_policy (text_in mid mid.policy_now) is.exchanged.new_under c.policy
        (subst (λ text. IsTextOf text is.exchanged.new_under) (texts_same mid.policy_now)
        (subst (λ n. IsTextOf (text_in contents n) is.exchanged.new_under) now_mid
        (agrees.texts trusted now is.exchanged.new_under is.exchanged.after_is))) hold.show.policy

    abbrev Exchanged : ℕ → Policy → Policy → Tree → Tree → Container → Type 0
    Exchanged n p q s t x = ArePairsExchanged c x (Owns n p (Some s)) (Owns n q (Some t))

    pub exchanged_one : ArePairsExchanged c (stepped 1 c) (Owns move.number is.exchanged.old_under (Some move.tree))
        (Owns move.number is.exchanged.new_under (Some move.tree))
    exchanged_one =
        let by : Exchanged entry.number entry.indexed_by c.policy entry.tree move.tree after_one =
        exchanged_replaced c hold.show.sound entry.id entry id_is move.tree in
        subst (Exchanged move.number is.exchanged.old_under is.exchanged.new_under move.tree move.tree) (sym one_is)
        (subst (λ s. Exchanged move.number is.exchanged.old_under is.exchanged.new_under s move.tree after_one) (sym tree_is)
        (subst (λ q. Exchanged move.number is.exchanged.old_under q entry.tree move.tree after_one) (sym new_policy)
        (subst (λ p. Exchanged move.number p c.policy entry.tree move.tree after_one) (sym old_is)
        (subst (λ n. Exchanged n entry.indexed_by c.policy entry.tree move.tree after_one) (sym shown.number) by))))

  -- ---- all moves

  pub record IsChained (after : ℕ) (mid : Contents) (c : Container) (moves : List Move) (are : AllByRecursion (IsMove honest table contents) moves)
      : Type 0 where
    pub documents : (new : Contents) → after_changes (moved_changes now moves) mid ≡ Some new → ContentsHold new (stepped (length moves) c)
    pub exchanged : ArePairsExchanged c (stepped (length moves) c) (OldOf honest table contents moves are) (NewOf honest table contents moves are)

  pub chain : (moves : List Move) (after : ℕ) (mid : Contents) (c : Container) → IsMid now after contents mid → ContentsHold mid c
      → AreNext contents now after (numbers_of moves) → (are : AllByRecursion (IsMove honest table contents) moves)
      → IsChained after mid c moves are
  chain [] after mid c of hold next are = record {
    documents = λ new lead. subst (λ (x : Contents). ContentsHold x (stepped 0 c)) (same_some mid new lead) hold;
    exchanged = record {
      old = λ pair o. absurd o;
      made = λ pair. ((λ has. inr (has, (λ o. o))), ⊎_elim (λ (n : ⊥). absurd n) (λ (kept : HasPair c pair × (⊥ → ⊥)). kept.0));
    };
  }
  chain (move ∷ moves) after mid c of hold next are =
      let mid_one : Contents = moved_in now move mid in
      let rest = chain moves move.number mid_one (stepped 1 c) (mid_next honest table contents after mid move of next.0)
      (hold_one after mid c move of hold next.0 are.0) next.1 are.1 in
      let leads_one = move_leads now move mid are.0.stored of.plain of.given (held_in honest table contents after mid move of next.0.above are.0) in
      let one = exchanged_one after mid c move of hold next.0 are.0 in
      let whole : stepped (suc (length moves)) c ≡ stepped (length moves) (stepped 1 c) = step_more (length moves) c in
      let Old : Pair → Type 0 = Owns move.number are.0.exchanged.old_under (Some move.tree) in
      let New : Pair → Type 0 = Owns move.number are.0.exchanged.new_under (Some move.tree) in
      let Later : Pair → Type 0 = OldOf honest table contents moves are.1 in
      let LaterNew : Pair → Type 0 = NewOf honest table contents moves are.1 in
      let new_apart : (pair : Pair) → New pair → Later pair → ⊥ =
      λ pair new later.
      apart honest table contents now after move moves are.1 next are.0.exchanged.new_under (Some move.tree) pair new (inl later) in
      let old_apart : (pair : Pair) → Old pair → Later pair → ⊥ =
      λ pair old later.
      apart honest table contents now after move moves are.1 next are.0.exchanged.old_under (Some move.tree) pair old (inl later) in
      let both = rest.exchanged in
      record {
        documents = λ new lead.
            subst (ContentsHold new) (sym whole)
            (rest.documents new (sym (ap (option_and_then (after_changes (moved_changes now moves))) leads_one) ∙ lead));
        exchanged = record {
          old = joined_old c (stepped 1 c) (stepped (length moves) (stepped 1 c)) Old Later New LaterNew one both new_apart old_apart;
          made = λ pair. (
            (λ has.
                joined_there c (stepped 1 c) (stepped (length moves) (stepped 1 c)) Old Later New LaterNew one both new_apart old_apart pair
                (subst (λ (x : Container). HasPair x pair) whole has)),
            (λ is.
                subst (λ (x : Container). HasPair x pair) (sym whole)
                (joined_back c (stepped 1 c) (stepped (length moves) (stepped 1 c)) Old Later New LaterNew one both new_apart old_apart pair is)),
          );
        };
      }
