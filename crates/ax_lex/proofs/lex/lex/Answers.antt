use Rattle.std.proofs.Common.{sym, arith}
use Rattle.ax_lex.proofs.Lexing.{past_space, past_token, read_shorter, refused, at_end}
use Rattle.ax_lex.proofs.lex.lex.Goals as goal

pub loop-byte-preserved-then-is_space : goal.loop-byte-preserved-then-is_space
loop-byte-preserved-then-is_space c =
    past_space _ _ c.loop-byte.invariant c.in-Some.ensures.cases.0 (sym c.if-is_space.ensures)

pub returns-in_default-split_token-clause-refused : goal.returns-in_default-split_token-clause-refused
returns-in_default-split_token-clause-refused c e =
    refused _ _ c.loop-byte.invariant c.in-Some.ensures.cases.0
    (sym c.if-is_space.ensures) c.in_default-split_token.ensures

pub token_before-requires : goal.token_before-requires
token_before-requires c = record {
  starts = c.loop-byte.invariant.within;
  ends = omega (
    arith,
    c.loop-byte.invariant.within,
    read_shorter c.loop-byte.rest.now _ _ c.in-Some-split_token.ensures,
  );
}

pub loop-byte-smaller : goal.loop-byte-smaller
loop-byte-smaller c = read_shorter c.loop-byte.rest.now _ _ c.in-Some-split_token.ensures

pub loop-byte-preserved : goal.loop-byte-preserved
loop-byte-preserved c =
    past_token _ c.token_before.result _ c.loop-byte.invariant
    (rw c.token_before.ensures.kind c.in-Some-split_token.ensures)
    c.token_before.ensures.start c.token_before.ensures.end c.in_ok-push.ensures.items

pub returns-clause-ok : goal.returns-clause-ok
returns-clause-ok c = at_end _ _ _ c.loop-byte.invariant c.in_default.ensures.cases
