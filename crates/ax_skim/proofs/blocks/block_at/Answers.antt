use Rattle.std.proofs.Common.{◌==◌, arith}
use Rattle.ax_skim.proofs.Blocked.{brackets_at, within_behind, none_there, front_same}
use Rattle.ax_skim.specs.Blocks.{is_opening, is_closing}
use Rattle.ax_skim.proofs.blocks.block_at.Goals as goal

pub returns : goal.returns
returns c =
    let text = c.args.text.now in
    let quotes = front_same (λ x. x == 34) text c.equal_to-2.result c.equal_to-2.ensures in
    let opens = front_same is_opening text c.opening-opens.result c.opening-opens.ensures in
    let closes = front_same is_closing text c.closing.result c.closing.ensures in
    record {
      long = omega arith;
      plain = none_there text c.equal_to.result (omega (arith, c.if-equal_to-ne0.false))
          (front_same (λ x. x == 92) text c.equal_to.result c.equal_to.ensures);
      opens = opens;
      brackets = brackets_at c.args.inside text c.equal_to-2.result c.prefix_xor.result
          c.opening-opens.result c.closing.result c.outside_texts-brackets.result quotes
          c.prefix_xor.ensures opens closes c.outside_texts-brackets.ensures;
      behind = within_behind c.args.inside text c.equal_to-2.result c.prefix_xor.result
          quotes c.prefix_xor.ensures (omega arith);
    }
