use Rattle.ax_image_pairs.proofs.Finding.{pairs_held}
use Rattle.ax_skips.proofs.laws.contents_have_what_a_plan_rests_on.Goals as goal

pub returns : goal.returns
returns c = λ query table unions contents container set hold is used planned. record {
  sound = hold.documents.show.sound;
  pairs = pairs_held contents.terms container set hold.pairs is;
  used = used;
  planned = planned;
}
