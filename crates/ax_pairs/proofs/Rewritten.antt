-- A page whose base is written anew: what the set is then.
use Rattle.std.proofs.Common.{◌≡◌, ◌≢◌, ℕ, ◌<◌, List, length, sym, ap, subst, Option}
use Rattle.std.specs.Option.{unwrap_or}
use Rattle.ax_pair.specs.declared.pair.Pair.{Pair}
use Rattle.ax_pair.specs.Low.{first_pair}
use Rattle.ax_leaf.specs.Pairs.{postings_of}
use Rattle.ax_leaf.specs.Payload.{IsLeaf}
use Rattle.ax_leaf.proofs.Lows.{leaf_low}
use Rattle.ax_delta.specs.Said.{has}
use Rattle.ax_pages.specs.Contents.{TermPage, low_of}
use Rattle.ax_pages.specs.AfterPart.{with_base, after_base}
use Rattle.ax_pages.specs.TermPages.{IsPageOf, low_pair}
use Rattle.ax_pages.proofs.TermLists.{put_within}
use Rattle.ax_pairs.specs.Index.{AllBelong, IsIndex}
use Rattle.ax_pairs.specs.PairSets.{PairSet}
use Rattle.ax_pairs.proofs.Changed.{put_at}
use Rattle.ax_pairs.proofs.PageLists.{of_payload}

-- the low pair of a page that has that base alone
pub base_low : (payload : List ℕ) (low : Pair) (pairs : List Pair) → IsLeaf payload low (postings_of pairs) → low_of (with_base payload) ≡ low
base_low payload low pairs is = ap (λ (found : Option Pair). unwrap_or found first_pair) (leaf_low payload low (postings_of pairs) is)

pub rewritten : (pages : List TermPage) (set after : PairSet) (number : ℕ) (payload : List ℕ) (pairs : List Pair) → IsIndex pages set → number < length pages
    → IsLeaf payload (low_pair number pages) (postings_of pairs) → AllBelong pairs number pages
    → ((p : Pair) → IsPageOf p number pages → has p pairs ≡ after p)
    → ((p : Pair) (m : ℕ) → m ≢ number → IsPageOf p m pages → set p ≡ after p)
    → IsIndex (after_base number payload pages) after
rewritten pages set after number payload pairs is there spelled belong here others =
    subst (λ (ps : List TermPage). IsIndex ps after) (sym (put_within number (with_base payload) pages there))
    (put_at pages number (with_base payload) there (base_low payload (low_pair number pages) pairs spelled) set after pairs is
    (of_payload payload (low_pair number pages) pairs spelled) belong here others)
