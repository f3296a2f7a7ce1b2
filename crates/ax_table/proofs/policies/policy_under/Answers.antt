use Rattle.std.proofs.Common.{subst, sym, ap, ◌∙◌}
use Rattle.std.proofs.lemmas.Result.{IfErr-weaker}
use Rattle.std.specs.FinMap as map
use Rattle.ax_image_grammar.specs.Table.{policy_text}
use Rattle.ax_policy.specs.Default.{default_policy}
use Rattle.ax_policy.specs.Normal.{normal_text}
use Rattle.ax_store.specs.Kept.{Kept}
use Rattle.ax_store.specs.Store.{store_contents, store_slots}
use Rattle.ax_store.specs.Slots.{IsRead}
use Rattle.ax_table.specs.Damage.{TellsPolicy}
use Rattle.ax_table.proofs.Answering.{by_default, by_text, memory_answer, memory_result, no_fault, part_is, read_still, still_slot, text_held}
use Rattle.ax_table.proofs.ReadsLaws.{by_part, nothing_read, read_only, same_fault}
use Rattle.ax_table.proofs.TableLaws.{one_part}
use Rattle.ax_table.proofs.Telling.{disk_told, policy_back}
use Rattle.ax_table.proofs.policies.policy_under.Goals as goal

pub returns-then-not-has_part-clause-policy : goal.returns-then-not-has_part-clause-policy
returns-then-not-has_part-clause-policy g c =
    by_default _ c.args.number _ c.by_default.result (sym c.has_part.ensures ∙ c.if-not-has_part.true) c.by_default.ensures.policy

pub returns-then-not-has_part-clause-told : goal.returns-then-not-has_part-clause-told
returns-then-not-has_part-clause-told g c = λ honest. memory_answer c.args.number c.args.store.now c.by_default.result c.by_default.ensures.memory

pub returns-then-not-has_part-clause-reads : goal.returns-then-not-has_part-clause-reads
returns-then-not-has_part-clause-reads g c =
    nothing_read g.C.PageCache.pages _ _ c.by_default.result c.args.store.now _ _ c.requires.agrees
    (memory_result c.by_default.result c.by_default.ensures.memory)

pub read_part-requires-clause-part : goal.read_part-requires-clause-part
read_part-requires-clause-part g c = one_part _ (sym c.has_part.ensures ∙ c.if-not-has_part.false)

pub returns-in-Err-clause-told : goal.returns-in-Err-clause-told
returns-in-Err-clause-told g c = λ honest. disk_told c.args.number c.args.store.now c.in-Err.fault c.in-Err.ensures.fails.disk_alone

pub returns-in-Err-clause-reads : goal.returns-in-Err-clause-reads
returns-in-Err-clause-reads g c =
    same_fault g.C.PageCache.pages _ _ _ _ _ _ _ _ _
    (by_part g.C.PageCache.pages _ _ _ _ _ _ _ _ _ c.in-Err.ensures.reads c.in-Err.ensures.others c.in-Err.ensures.fails)

pub policy_read-requires-clause-part : goal.policy_read-requires-clause-part
policy_read-requires-clause-part g c =
    ap (λ (kept : Kept). map.contains_key kept.contents.policies c.args.number) c.in-Ok.ensures.reads.same.pages
    ∙ sym c.has_part.ensures ∙ c.if-not-has_part.false

pub policy_read-requires-clause-slot : goal.policy_read-requires-clause-slot
policy_read-requires-clause-slot g c =
    still_slot c.args.store.now c.read_part.new.self c.args.slot.now.number _ _ c.in-Ok.ensures.others c.in-Ok.ensures.slot c.requires.slot

pub returns-clause-policy : goal.returns-clause-policy
returns-clause-policy g c =
    let there = sym c.has_part.ensures ∙ c.if-not-has_part.false in
    by_text _ c.args.number (store_contents c.args.store.now) c.policy_read.result c.policy_read.ensures.policy
    (λ honest. c.policy_read.ensures.text (policy_text c.args.number (store_contents c.args.store.now))
    (read_still _ _ c.args.slot.now _ _ c.in-Ok.ensures.slot
    (subst (λ text. IsRead text (store_slots c.read_part.new.self) c.args.slot.now.number c.in-Ok.len)
    (part_is (map.get (store_contents c.args.store.now).policies c.args.number) (normal_text default_policy) there) (c.in-Ok.ensures.read honest))))

pub returns-clause-told : goal.returns-clause-told
returns-clause-told g c = λ honest.
    let there = sym c.has_part.ensures ∙ c.if-not-has_part.false in
    IfErr-weaker c.policy_read.result (TellsPolicy c.args.number c.read_part.new.self) (TellsPolicy c.args.number c.args.store.now)
    (λ fault. policy_back c.args.number c.args.store.now c.read_part.new.self fault c.in-Ok.ensures.reads.same)
    (c.policy_read.ensures.told (policy_text c.args.number (store_contents c.args.store.now))
    (ap (λ (kept : Kept). map.get kept.contents.policies c.args.number) c.in-Ok.ensures.reads.same.pages
    ∙ text_held (map.get (store_contents c.args.store.now).policies c.args.number) (normal_text default_policy) there)
    (read_still _ _ c.args.slot.now _ _ c.in-Ok.ensures.slot
    (subst (λ text. IsRead text (store_slots c.read_part.new.self) c.args.slot.now.number c.in-Ok.len)
    (part_is (map.get (store_contents c.args.store.now).policies c.args.number) (normal_text default_policy) there) (c.in-Ok.ensures.read honest))))

pub returns-clause-reads : goal.returns-clause-reads
returns-clause-reads g c =
    read_only g.C.PageCache.pages _ _ c.in-Ok.len c.policy_read.result _ _ _ _ _ _
    (by_part g.C.PageCache.pages _ _ _ _ _ _ _ _ _ c.in-Ok.ensures.reads c.in-Ok.ensures.others c.in-Ok.ensures.fails)
    (no_fault c.policy_read.result c.policy_read.ensures.fault)
