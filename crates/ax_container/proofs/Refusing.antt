-- When a write is refused, and what one that is made leads to.
use Rattle.std.proofs.Common.{◌≡◌, ℕ, List, Bool, true, false, cond, Result, Ok, Err, refl, ap, ◌∙◌, subst}
use Rattle.ax_tree.specs.declared.tree.Tree.{Tree}
use Rattle.ax_container.specs.Container.{Container, contains, IsSound}
use Rattle.ax_container.specs.Writes.{WriteRefusal, Conflict, Absent, Full, replaced, created, deleted, is_full}
use Rattle.ax_container.specs.Writes.{creation, inserted, exchanged, removed, upserted}
use Rattle.ax_container.proofs.Soundness.{MayBe, sound_replaced, sound_created, sound_deleted}
use Rattle.ax_container.proofs.Upserts.{done, done_same}

-- ---- the answer, by whether the id is held and whether there is room

pub conflicts : (id : List ℕ) (tree : Tree) (c : Container) → contains id c ≡ true
    → inserted id tree c ≡ Err Conflict
conflicts id tree c there = ap (λ b. cond b (Err Conflict) (creation id tree c)) there

inserts : (id : List ℕ) (tree : Tree) (c : Container) → contains id c ≡ false
    → inserted id tree c ≡ creation id tree c
inserts id tree c absent = ap (λ b. cond b (Err Conflict) (creation id tree c)) absent

upserts : (id : List ℕ) (tree : Tree) (c : Container) → contains id c ≡ false
    → upserted id tree c ≡ creation id tree c
upserts id tree c absent = ap (λ b. cond b (done (replaced id tree c)) (creation id tree c)) absent

creates_none : (id : List ℕ) (tree : Tree) (c : Container) → is_full c ≡ true
    → creation id tree c ≡ Err Full
creates_none id tree c full = ap (λ b. cond b (Err Full) (done (created id tree c))) full

creates_one : (id : List ℕ) (tree : Tree) (c : Container) → is_full c ≡ false
    → creation id tree c ≡ Ok (created id tree c)
creates_one id tree c space = ap (λ b. cond b (Err Full) (done (created id tree c))) space

pub full_insertion : (id : List ℕ) (tree : Tree) (c : Container) → contains id c ≡ false → is_full c ≡ true
    → inserted id tree c ≡ Err Full
full_insertion id tree c absent full = inserts id tree c absent ∙ creates_none id tree c full

pub full_upsert : (id : List ℕ) (tree : Tree) (c : Container) → contains id c ≡ false → is_full c ≡ true
    → upserted id tree c ≡ Err Full
full_upsert id tree c absent full = upserts id tree c absent ∙ creates_none id tree c full

pub insertion_made : (id : List ℕ) (tree : Tree) (c : Container) → contains id c ≡ false → is_full c ≡ false
    → inserted id tree c ≡ Ok (created id tree c)
insertion_made id tree c absent space = inserts id tree c absent ∙ creates_one id tree c space

pub upsert_made : (id : List ℕ) (tree : Tree) (c : Container) → contains id c ≡ false → is_full c ≡ false
    → upserted id tree c ≡ Ok (created id tree c)
upsert_made id tree c absent space = upserts id tree c absent ∙ creates_one id tree c space

pub exchange_absent : (id : List ℕ) (tree : Tree) (c : Container) → contains id c ≡ false
    → exchanged id tree c ≡ Err Absent
exchange_absent id tree c absent = ap (λ b. cond b (done (replaced id tree c)) (Err Absent)) absent

pub exchange_made : (id : List ℕ) (tree : Tree) (c : Container) → contains id c ≡ true
    → exchanged id tree c ≡ Ok (replaced id tree c)
exchange_made id tree c there = ap (λ b. cond b (done (replaced id tree c)) (Err Absent)) there

pub upsert_exchanges : (id : List ℕ) (tree : Tree) (c : Container) → contains id c ≡ true
    → upserted id tree c ≡ Ok (replaced id tree c)
upsert_exchanges id tree c there = ap (λ b. cond b (done (replaced id tree c)) (creation id tree c)) there

pub removal_absent : (id : List ℕ) (c : Container) → contains id c ≡ false → removed id c ≡ Err Absent
removal_absent id c absent = ap (λ b. cond b (done (deleted id c)) (Err Absent)) absent

pub removal_made : (id : List ℕ) (c : Container) → contains id c ≡ true → removed id c ≡ Ok (deleted id c)
removal_made id c there = ap (λ b. cond b (done (deleted id c)) (Err Absent)) there

-- ---- the ways of a write that is not refused

abbrev conflict : Result Container WriteRefusal
conflict = Err Conflict

abbrev absence : Result Container WriteRefusal
absence = Err Absent

abbrev fullness : Result Container WriteRefusal
fullness = Err Full

pub insertion_cases : (id : List ℕ) (tree : Tree) (c after : Container) (P : Container → Type 0)
    → (contains id c ≡ false → is_full c ≡ false → P (created id tree c))
    → inserted id tree c ≡ Ok after → P after
insertion_cases id tree c after P creates = by_place (contains id c) refl
  where
    by_room : (full : Bool) → is_full c ≡ full → contains id c ≡ false
        → cond full fullness (Ok (created id tree c)) ≡ Ok after → P after
    by_room true full absent e = absurd (cc)
    by_room false space absent e = subst P (done_same _ _ e) (creates absent space)

    by_place : (there : Bool) → contains id c ≡ there
        → cond there conflict (creation id tree c) ≡ Ok after → P after
    by_place true there e = absurd (cc)
    by_place false absent e = by_room (is_full c) refl absent e

pub exchange_cases : (id : List ℕ) (tree : Tree) (c after : Container) (P : Container → Type 0)
    → (contains id c ≡ true → P (replaced id tree c))
    → exchanged id tree c ≡ Ok after → P after
exchange_cases id tree c after P replaces = by_place (contains id c) refl
  where
    by_place : (there : Bool) → contains id c ≡ there
        → cond there (Ok (replaced id tree c)) absence ≡ Ok after → P after
    by_place true there e = subst P (done_same _ _ e) (replaces there)
    by_place false absent e = absurd (cc)

pub removal_cases : (id : List ℕ) (c after : Container) (P : Container → Type 0)
    → (contains id c ≡ true → P (deleted id c))
    → removed id c ≡ Ok after → P after
removal_cases id c after P deletes = by_place (contains id c) refl
  where
    by_place : (there : Bool) → contains id c ≡ there
        → cond there (Ok (deleted id c)) absence ≡ Ok after → P after
    by_place true there e = subst P (done_same _ _ e) (deletes there)
    by_place false absent e = absurd (cc)

-- ---- each keeps a container sound

pub insertion_keeps_soundness : (before after : Container) (id : List ℕ) (tree : Tree)
    → MayBe id tree before.policy
    → IsSound before → inserted id tree before ≡ Ok after → IsSound after
insertion_keeps_soundness before after id tree new h =
    insertion_cases id tree before after IsSound
    (λ absent space. sound_created id tree before absent space new h)

pub exchange_keeps_soundness : (before after : Container) (id : List ℕ) (tree : Tree)
    → MayBe id tree before.policy
    → IsSound before → exchanged id tree before ≡ Ok after → IsSound after
exchange_keeps_soundness before after id tree new h =
    exchange_cases id tree before after IsSound (λ there. sound_replaced id tree before new h)

pub removal_keeps_soundness : (before after : Container) (id : List ℕ)
    → IsSound before → removed id before ≡ Ok after → IsSound after
removal_keeps_soundness before after id h =
    removal_cases id before after IsSound (λ there. sound_deleted id before h)
