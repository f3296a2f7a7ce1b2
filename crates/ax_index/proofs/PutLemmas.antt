-- Parts that were put one after another: deltas, and bases.
use Rattle.std.proofs.Common.{◌≡◌, ℕ, ◌+◌, ◌<◌, List, [], ◌∷◌, ◌++◌, length, take, drop, arith}
use Rattle.std.proofs.Common.{refl, sym, ap, ◌∙◌, subst, append_assoc, append-nil, true, ⊎_elim}
use Rattle.std.specs.declared.cmp.Ordering.TheVariants.{Less}
use Rattle.ax_frame.specs.Part.{PartValue}
use Rattle.ax_pair.specs.declared.pair.Pair.{Pair}
use Rattle.ax_pair.specs.Order.{pair_cmp, Rise, BeginsFrom}
use Rattle.ax_leaf.specs.Pairs.{postings_of}
use Rattle.ax_leaf.specs.Payload.{IsLeaf}
use Rattle.ax_delta.specs.declared.change.Change.{Change}
use Rattle.ax_delta.specs.Changes.{changed_pairs, term_changes_of}
use Rattle.ax_delta.specs.Payload.{IsDelta}
use Rattle.ax_delta.specs.Said.{has}
use Rattle.ax_delta.proofs.SamePair.{less_apart}
use Rattle.ax_pages.specs.Contents.{TermPage}
use Rattle.ax_pages.specs.AfterPart.{after_base, after_delta, most_term_pages, with_base}
use Rattle.ax_pages.specs.TermPages.{low_pair}
use Rattle.ax_pages.proofs.TermLists.{put_within}
use Rattle.std.proofs.lemmas.List.{length-set, take-append-drop}
use Rattle.ax_pairs.specs.Index.{AllBelong}
use Rattle.ax_pairs.proofs.Leading.{delta_part, base_part}
use Rattle.ax_pairs.proofs.PairOrder.{NotAfter, not_both, order_cases, then_less}
use Rattle.ax_pairs.proofs.Belonging.{longer, one_more}
use Rattle.ax_index.specs.DeltaRuns.{ArePut}
use Rattle.ax_index.specs.Rewriting.{IsBasePut, Rewrites, IsRewrittenTo}
use Rattle.ax_index.proofs.Lists.{changed_more, rises_front, rises_back, deltas_more, one_before, first_of_list}
use Rattle.ax_index.proofs.DeltaRunLemmas.{carry_nothing, carry_one, carry_then, one_delta_of}
use Rattle.ax_index.proofs.RewritingLemmas.{first_base, next_base}

-- ---- deltas

pub put_together : {A : Type 0} (n : ℕ) (all first behind : List A) → first ≡ take n all → behind ≡ drop n all → all ≡ first ++ behind
put_together n all first behind front back =
    sym (take-append-drop n all) ∙ ap (λ xs. xs ++ drop n all) (sym front) ∙ ap (λ xs. first ++ xs) (sym back)

pub rise_parted : (all first behind : List Change) → all ≡ first ++ behind → Rise (changed_pairs all) → Rise (changed_pairs first) × Rise (changed_pairs behind)
rise_parted all first behind whole up =
    let both : Rise (changed_pairs first ++ changed_pairs behind) = subst Rise (ap changed_pairs whole ∙ changed_more first behind) up in
    (rises_front (changed_pairs first) (changed_pairs behind) both, rises_back (changed_pairs first) (changed_pairs behind) both)

pub none_put : (page : ℕ) (now : List TermPage) (old : List PartValue) → ArePut page [] now 0 old old
none_put page now old = record { parts = []; added = sym (append-nil old); after = now; carry = carry_nothing page now; counted = refl }

pub one_put : (page : ℕ) (changes : List Change) (now : List TermPage) (payload : List ℕ) (old new : List PartValue) → page < length now
    → Rise (changed_pairs changes)
    → IsDelta payload (term_changes_of changes) → new ≡ old ++ delta_part page payload ∷ [] → ArePut page changes now 1 old new
one_put page changes now payload old new there up spelled added = record {
  parts = delta_part page payload ∷ [];
  added = added;
  after = after_delta page payload now;
  carry = carry_one page changes now payload there up spelled;
  counted = one_delta_of page payload;
}

pub more_put : (page : ℕ) (done first : List Change) (now : List TermPage) (count : ℕ) (old here new : List PartValue) → page < length now
    → ArePut page done now count old here
    → ((later : List TermPage) → page < length later → ArePut page first later 1 here new) → ArePut page (done ++ first) now (count + 1) old new
more_put page done first now count old here new there is more =
    let next : ArePut page first is.after 1 here new = more is.after (omega (arith, is.carry.lows.many)) in
    record {
      parts = is.parts ++ next.parts;
      added = next.added ∙ ap (λ (ps : List PartValue). ps ++ next.parts) is.added ∙ append_assoc old is.parts next.parts;
      after = next.after;
      carry = carry_then page done first now is.after next.after is.parts next.parts is.carry next.carry;
      counted = omega (arith, deltas_more page is.parts next.parts, is.counted, next.counted);
    }

-- ---- bases

base_many : (page : ℕ) (payload : List ℕ) (now : List TermPage) → page < length now → length (after_base page payload now) ≡ length now
base_many page payload now there = ap length (put_within page (with_base payload) now there) ∙ length-set now page (with_base payload)

-- where the first of the pairs is not before the low pair, those behind some of them are after it
pub behind_some : (low : Pair) (first rest : List Pair) → Rise (first ++ rest) → BeginsFrom low (first ++ rest)
    → (0 < length (first ++ rest) → 0 < length first)
    → (p : Pair) → has p rest ≡ true → pair_cmp low p ≡ Less
behind_some low [] [] rise begins some p h = absurd (cc)
behind_some low [] (q ∷ rest) rise begins some p h = absurd (omega (arith, some (omega arith)))
behind_some low (q ∷ first) rest rise begins some p h =
    then_less low q p (not_before low q begins) (one_before q p (q ∷ first) rest rise (first_of_list q first) h)
  where
    not_before : (low q : Pair) → (pair_cmp q low ≡ Less → ⊥) → NotAfter low q
    not_before low q begins = ⊎_elim (λ (up : NotAfter low q). up) (λ (less : pair_cmp q low ≡ Less). absurd (begins less)) (order_cases low q)

pub begins_itself : (q : Pair) (pairs : List Pair) → BeginsFrom q (q ∷ pairs)
begins_itself q pairs less = less_apart q q less refl

pub first_put : (page : ℕ) (first rest : List Pair) (now : List TermPage) (low : Pair) (old new : List PartValue) → page < length now → low_pair page now ≡ low
    → Rise (first ++ rest) → BeginsFrom low (first ++ rest) → (0 < length (first ++ rest) → 0 < length first) → AllBelong (first ++ rest) page now
    → IsBasePut page low first old new → IsRewrittenTo page (first ++ rest) rest now (length now) old new
first_put page first rest now low old new there same rise begins some belong put =
    let above : (p : Pair) → has p rest ≡ true → pair_cmp (low_pair page now) p ≡ Less =
    λ p h. subst (λ (l : Pair). pair_cmp l p ≡ Less) (sym same) (behind_some low first rest rise begins some p h)
    in
    let rewrites : Rewrites page (first ++ rest) rest now (base_part page put.payload ∷ []) (after_base page put.payload now) =
    first_base page first rest now put.payload there rise (subst (λ (l : Pair). IsLeaf put.payload l (postings_of first)) (sym same) put.is) belong above some
    in
    record {
      parts = base_part page put.payload ∷ [];
      added = put.added;
      after = after_base page put.payload now;
      rewrites = rewrites;
      next_is = sym (base_many page put.payload now there);
    }

pub next_put : (page : ℕ) (list : List Pair) (q : Pair) (piece rest : List Pair) (now : List TermPage) (next : ℕ) (old here new : List PartValue)
    → Rise list → AllBelong list page now
    → next < most_term_pages → IsRewrittenTo page list ((q ∷ piece) ++ rest) now next old here → IsBasePut next q (q ∷ piece) here new
    → IsRewrittenTo page list rest now (next + 1) old new
next_put page list q piece rest now next old here new rise belong few is put =
    let at : IsBasePut (length is.after) q (q ∷ piece) here new = subst (λ (n : ℕ). IsBasePut n q (q ∷ piece) here new) is.next_is put in
    record {
      parts = is.parts ++ base_part (length is.after) at.payload ∷ [];
      added = at.added ∙ ap (λ (ps : List PartValue). ps ++ base_part (length is.after) at.payload ∷ []) is.added
          ∙ append_assoc old is.parts (base_part (length is.after) at.payload ∷ []);
      after = longer is.after (with_base at.payload);
      rewrites = next_base page list q piece rest now is.parts is.after at.payload is.rewrites rise belong (omega (arith, is.next_is)) at.is;
      next_is = omega (arith, is.next_is, one_more is.after (with_base at.payload));
    }

-- ---- by pieces of a list

pub list_parted : (all first behind : List Pair) → all ≡ first ++ behind → Rise all → Rise first × Rise behind
list_parted all first behind whole rise =
    let both : Rise (first ++ behind) = subst Rise whole rise in (rises_front first behind both, rises_back first behind both)

pub piece_begins : (q : Pair) (rest tail piece behind : List Pair) → rest ≡ q ∷ tail → rest ≡ piece ++ behind → 0 < length piece
    → (more : List Pair) × (piece ≡ q ∷ more)
piece_begins q rest tail [] behind begins parts some = absurd (omega arith)
piece_begins q rest tail (x ∷ piece) behind begins parts some =
    let same : x ∷ (piece ++ behind) ≡ q ∷ tail = sym parts ∙ begins in
    let first : x ≡ q = cc in
    (piece, ap (λ (y : Pair). y ∷ piece) first)

pub piece_begins_itself : (q : Pair) (rest tail piece behind : List Pair) → rest ≡ q ∷ tail → rest ≡ piece ++ behind → 0 < length piece → BeginsFrom q piece
piece_begins_itself q rest tail piece behind begins parts some =
    let (more, is) = piece_begins q rest tail piece behind begins parts some in
    subst (BeginsFrom q) (sym is) (begins_itself q more)

pub belong_begins : (pages : List TermPage) (page : ℕ) (low : Pair) (pairs : List Pair) → low ≡ low_pair page pages → AllBelong pairs page pages
    → BeginsFrom low pairs
belong_begins pages page low [] same belong = tt
belong_begins pages page low (q ∷ pairs) same belong = λ less.
    not_both q low less (subst (λ (l : Pair). NotAfter l q) (sym same) (belong q (first_of_list q pairs)).below)

pub first_of_pairs : (page : ℕ) (pairs first rest : List Pair) (now : List TermPage) (low : Pair) (next : ℕ) (old new : List PartValue)
    → pairs ≡ first ++ rest → next ≡ length now
    → page < length now → low_pair page now ≡ low → Rise pairs → BeginsFrom low pairs → (0 < length pairs → 0 < length first) → AllBelong pairs page now
    → IsBasePut page low first old new → IsRewrittenTo page pairs rest now next old new
first_of_pairs page pairs first rest now low next old new whole next_is there same rise begins some belong put =
    subst (λ (list : List Pair). IsRewrittenTo page list rest now next old new) (sym whole)
    (subst (λ (n : ℕ). IsRewrittenTo page (first ++ rest) rest now n old new) (sym next_is)
    (first_put page first rest now low old new there same (subst Rise whole rise) (subst (BeginsFrom low) whole begins)
    (λ h. some (subst (λ (list : List Pair). 0 < length list) (sym whole) h))
    (subst (λ (list : List Pair). AllBelong list page now) whole belong) put))

pub next_of_pairs : (page : ℕ) (list : List Pair) (q : Pair) (rest tail piece behind : List Pair) (now : List TermPage) (next later : ℕ)
    (old here new : List PartValue) → Rise list
    → AllBelong list page now → next < most_term_pages → later ≡ next + 1 → rest ≡ q ∷ tail → rest ≡ piece ++ behind → 0 < length piece
    → IsRewrittenTo page list rest now next old here → IsBasePut next q piece here new → IsRewrittenTo page list behind now later old new
next_of_pairs page list q rest tail piece behind now next later old here new rise belong few later_is begins parts some is put =
    let (more, piece_is) = piece_begins q rest tail piece behind begins parts some in
    let at_rest : rest ≡ (q ∷ more) ++ behind = parts ∙ ap (λ (ps : List Pair). ps ++ behind) piece_is in
    subst (λ (n : ℕ). IsRewrittenTo page list behind now n old new) (sym later_is)
    (next_put page list q more behind now next old here new rise belong few
    (subst (λ (ps : List Pair). IsRewrittenTo page list ps now next old here) at_rest is)
    (subst (λ (ps : List Pair). IsBasePut next q ps here new) piece_is put))
