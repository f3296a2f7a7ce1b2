use Rattle.std.proofs.Common.{◌≡◌, ◌<◌, ◌∷◌, length, arith, rules, ap, subst, sym, ◌∙◌}
use Rattle.ax_index.specs.PageSizes.{HasNumbers, base_bytes}
use Rattle.ax_index.proofs.BaseSizes.{behind_short, front_short, own_short}
use Rattle.ax_index.proofs.PageSizesLemmas.{number_there, numbers_behind}
use Rattle.ax_index.proofs.PutLemmas.{put_together, list_parted, piece_begins_itself, first_of_pairs, next_of_pairs}
use Rattle.ax_index.proofs.bases.put_bases.Goals as goal

pub put_base-requires-clause-rise : goal.put_base-requires-clause-rise
put_base-requires-clause-rise c =
    (list_parted c.args.pairs.now _ _ (put_together c.base_len.result c.args.pairs.now _ _ c.split_at.ensures.front c.split_at.ensures.back) c.requires.rise).0

pub put_base-requires-clause-short : goal.put_base-requires-clause-short
put_base-requires-clause-short c =
    front_short c.base_len.result c.args.low.now c.args.pairs.now _ c.split_at.ensures.front c.requires.short

pub put_base-requires-clause-few : goal.put_base-requires-clause-few
put_base-requires-clause-few c = omega (arith, ap base_bytes c.split_at.ensures.front, c.base_len.ensures.fits)

pub loop-low-init : goal.loop-low-init
loop-low-init c =
    let whole = put_together c.base_len.result c.args.pairs.now _ _ c.split_at.ensures.front c.split_at.ensures.back in
    record {
      rise = (list_parted c.args.pairs.now _ _ whole c.requires.rise).1;
      short = behind_short c.base_len.result c.args.pairs.now _ c.split_at.ensures.back c.requires.short.1;
      numbers = subst (HasNumbers c.args.next.now) (sym (c.split_at.ensures.back ∙ c.base_len.ensures.cut)) c.requires.numbers;
      rewritten = λ now next_is there same belong.
          first_of_pairs c.args.page c.args.pairs.now _ _ now c.args.low.now c.args.next.now _ _ whole next_is there same c.requires.rise c.requires.begins
          (λ some. omega (arith, c.base_len.ensures.some some, c.split_at.ensures.front_len)) belong c.in_ok-put_base.ensures;
    }

pub put_new_page-requires-clause-rise : goal.put_new_page-requires-clause-rise
put_new_page-requires-clause-rise c =
    (list_parted c.loop-low.rest.now _ _
    (put_together c.base_len-in-Some.result c.loop-low.rest.now _ _ c.split_at-in-Some.ensures.front c.split_at-in-Some.ensures.back)
    c.loop-low.invariant.rise).0

pub put_new_page-requires-clause-begins : goal.put_new_page-requires-clause-begins
put_new_page-requires-clause-begins c =
    let begins : c.loop-low.rest.now ≡ c.in-Some.low.now ∷ c.in-Some.field-0-1.now = search rules in
    let some : 0 < length c.loop-low.rest.now = omega (arith, ap length begins) in
    piece_begins_itself c.in-Some.low.now c.loop-low.rest.now _ _ _ begins
    (put_together c.base_len-in-Some.result c.loop-low.rest.now _ _ c.split_at-in-Some.ensures.front c.split_at-in-Some.ensures.back)
    (omega (arith, c.base_len-in-Some.ensures.some some, c.split_at-in-Some.ensures.front_len))

pub put_new_page-requires-clause-short : goal.put_new_page-requires-clause-short
put_new_page-requires-clause-short c =
    let begins : c.loop-low.rest.now ≡ c.in-Some.low.now ∷ c.in-Some.field-0-1.now = search rules in
    front_short c.base_len-in-Some.result c.in-Some.low.now c.loop-low.rest.now _ c.split_at-in-Some.ensures.front
    (own_short c.in-Some.low.now c.loop-low.rest.now _ begins c.loop-low.invariant.short)

pub put_new_page-requires-clause-few : goal.put_new_page-requires-clause-few
put_new_page-requires-clause-few c = omega (arith, ap base_bytes c.split_at-in-Some.ensures.front, c.base_len-in-Some.ensures.fits)

pub put_new_page-requires-clause-number : goal.put_new_page-requires-clause-number
put_new_page-requires-clause-number c =
    let begins : c.loop-low.rest.now ≡ c.in-Some.low.now ∷ c.in-Some.field-0-1.now = search rules in
    let some : 0 < length c.loop-low.rest.now = omega (arith, ap length begins) in
    number_there c.loop-low.next c.loop-low.rest.now some c.loop-low.invariant.numbers

pub loop-low-preserved : goal.loop-low-preserved
loop-low-preserved c =
    let begins : c.loop-low.rest.now ≡ c.in-Some.low.now ∷ c.in-Some.field-0-1.now = search rules in
    let some : 0 < length c.loop-low.rest.now = omega (arith, ap length begins) in
    let whole = put_together c.base_len-in-Some.result c.loop-low.rest.now _ _ c.split_at-in-Some.ensures.front c.split_at-in-Some.ensures.back in
    record {
      rise = (list_parted c.loop-low.rest.now _ _ whole c.loop-low.invariant.rise).1;
      short = behind_short c.base_len-in-Some.result c.loop-low.rest.now _ c.split_at-in-Some.ensures.back c.loop-low.invariant.short;
      numbers = numbers_behind c.loop-low.next _ c.loop-low.rest.now _ some (c.split_at-in-Some.ensures.back ∙ c.base_len-in-Some.ensures.cut)
          c.in_ok-put_new_page.ensures.next.0 c.loop-low.invariant.numbers;
      rewritten = λ now next_is there same belong.
          next_of_pairs c.args.page c.args.pairs.now c.in-Some.low.now c.loop-low.rest.now _ _ _ now c.loop-low.next _ _ _ _ c.requires.rise belong
          c.in_ok-put_new_page.ensures.next.1 c.in_ok-put_new_page.ensures.next.0 begins whole
          (omega (arith, c.base_len-in-Some.ensures.some some, c.split_at-in-Some.ensures.front_len))
          (c.loop-low.invariant.rewritten now next_is there same belong) c.in_ok-put_new_page.ensures.put;
    }
