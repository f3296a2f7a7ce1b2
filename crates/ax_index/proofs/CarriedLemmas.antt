-- What is put for each page, one part after another.
use Rattle.std.proofs.Common.{◌≡◌, ◌≢◌, ℕ, ◌+◌, ◌<◌, ◌≤◌, ◌==◌, ◌&&◌, List, [], ◌∷◌, ◌++◌, length}
use Rattle.std.proofs.Common.{arith, refl, sym, ap, ◌∙◌, subst, Bool, true, false, cond, nat_lt}
use Rattle.std.proofs.Common.{append_assoc, append-nil, inl, inr, ⊎_elim, Option, Some, None}
use Rattle.std.proofs.lemmas.Bool.{eq-eqb, eqb-true, lt-ltb, ne_eqb}
use Rattle.ax_frame.specs.Part.{PartValue}
use Rattle.ax_delta.specs.declared.change.Change.{Change}
use Rattle.ax_delta.specs.Changes.{changed_pairs, term_changes_of}
use Rattle.ax_delta.specs.Payload.{IsDelta}
use Rattle.ax_delta.specs.Said.{has}
use Rattle.ax_delta.proofs.SamePair.{true_or_false}
use Rattle.ax_pages.specs.declared.page.Kind.{Kind}
use Rattle.ax_pages.specs.declared.page.Kind.TheVariants as kind
use Rattle.ax_pages.specs.AfterPart.{kind_of}
use Rattle.ax_pages.specs.Contents.{TermPage}
use Rattle.ax_pages.specs.TermPages.{AreApart, low_pair}
use Rattle.ax_pair.specs.declared.pair.Pair.{Pair}
use Rattle.ax_pairs.specs.Index.{AllBelong}
use Rattle.ax_pairs.specs.TermParts.{bases_below, bases_by_kind}
use Rattle.ax_pairs.proofs.Belonging.{one_page}
use Rattle.ax_pairs.proofs.Leading.{base_part, delta_part}
use Rattle.ax_pairs.proofs.PairOrder.{not_both}
use Rattle.ax_store.specs.Kept.{deltas_by_kind, deltas_of}
use Rattle.ax_index.specs.Carried.{AreDeltasOf, IsPut, IsSettled, bases_put, deltas_put, is_base_kind, is_delta_kind}
use Rattle.ax_index.specs.Planning.{AreBefore, IsPutBy}
use Rattle.ax_index.proofs.Lists.{changed_more, not_in_first}

-- ---- parts one behind another

pub deltas_put_more : (n : ℕ) (first second : List PartValue) → deltas_put n (first ++ second) ≡ deltas_put n first ++ deltas_put n second
deltas_put_more n [] second = refl
deltas_put_more n (part ∷ first) second = by_test (is_delta_kind (kind_of part.kind) && part.key == n) (deltas_put_more n first second)
  where
    by_test : (b : Bool) → deltas_put n (first ++ second) ≡ deltas_put n first ++ deltas_put n second
        → cond b (part.payload ∷ deltas_put n (first ++ second)) (deltas_put n (first ++ second))
        ≡ cond b (part.payload ∷ deltas_put n first) (deltas_put n first) ++ deltas_put n second
    by_test true e = ap (λ (ps : List (List ℕ)). part.payload ∷ ps) e
    by_test false e = e

pub bases_put_more : (n : ℕ) (first second : List PartValue) → bases_put n (first ++ second) ≡ bases_put n first ++ bases_put n second
bases_put_more n [] second = refl
bases_put_more n (part ∷ first) second = by_test (is_base_kind (kind_of part.kind) && part.key == n) (bases_put_more n first second)
  where
    by_test : (b : Bool) → bases_put n (first ++ second) ≡ bases_put n first ++ bases_put n second
        → cond b (part.payload ∷ bases_put n (first ++ second)) (bases_put n (first ++ second))
        ≡ cond b (part.payload ∷ bases_put n first) (bases_put n first) ++ bases_put n second
    by_test true e = ap (λ (ps : List (List ℕ)). part.payload ∷ ps) e
    by_test false e = e

pub same_bases : (n : ℕ) (first second : List PartValue) → bases_put n second ≡ [] → bases_put n (first ++ second) ≡ bases_put n first
same_bases n first second none =
    bases_put_more n first second ∙ ap (λ (ps : List (List ℕ)). bases_put n first ++ ps) none ∙ append-nil (bases_put n first)

pub later_bases : (n : ℕ) (first second : List PartValue) → bases_put n first ≡ [] → bases_put n (first ++ second) ≡ bases_put n second
later_bases n first second none = bases_put_more n first second ∙ ap (λ (ps : List (List ℕ)). ps ++ bases_put n second) none

-- ---- how many

many_by_kind : (k : Option Kind) (key n : ℕ) (payload : List ℕ) (payloads : List (List ℕ))
    → length (cond (is_delta_kind k && key == n) (payload ∷ payloads) payloads) ≡ deltas_by_kind k key n + length payloads
many_by_kind None key n payload payloads = omega arith
many_by_kind (Some kind.Meta) key n payload payloads = omega arith
many_by_kind (Some kind.Policy) key n payload payloads = omega arith
many_by_kind (Some kind.Document) key n payload payloads = omega arith
many_by_kind (Some kind.Gone) key n payload payloads = omega arith
many_by_kind (Some kind.Base) key n payload payloads = omega arith
many_by_kind (Some kind.Delta) key n payload payloads = by_test (key == n)
  where
    by_test : (b : Bool) → length (cond b (payload ∷ payloads) payloads) ≡ cond b 1 0 + length payloads
    by_test true = omega arith
    by_test false = omega arith

pub many_deltas : (n : ℕ) (parts : List PartValue) → length (deltas_put n parts) ≡ deltas_of n parts
many_deltas n [] = refl
many_deltas n (part ∷ parts) =
    omega (arith, many_by_kind (kind_of part.kind) part.key n part.payload (deltas_put n parts), many_deltas n parts)

abbrev one_or_none : Bool → ℕ
one_or_none b = cond b 1 0

most_by_kind : (k : Option Kind) (key n count : ℕ) (payload : List ℕ) (payloads : List (List ℕ)) → n < count
    → length (cond (is_base_kind k && key == n) (payload ∷ payloads) payloads) ≤ bases_by_kind k key count + length payloads
most_by_kind None key n count payload payloads h = omega arith
most_by_kind (Some kind.Meta) key n count payload payloads h = omega arith
most_by_kind (Some kind.Policy) key n count payload payloads h = omega arith
most_by_kind (Some kind.Document) key n count payload payloads h = omega arith
most_by_kind (Some kind.Gone) key n count payload payloads h = omega arith
most_by_kind (Some kind.Delta) key n count payload payloads h = omega arith
most_by_kind (Some kind.Base) key n count payload payloads h = by_test (key == n) (λ e. omega (arith, eqb-true key n e))
  where
    by_test : (b : Bool) → (b ≡ true → key < count) → length (cond b (payload ∷ payloads) payloads) ≤ cond (nat_lt key count) 1 0 + length payloads
    by_test true below =
        let one : one_or_none (nat_lt key count) ≡ 1 = ap one_or_none (lt-ltb key count (below refl)) in
        omega (arith, one)
    by_test false below = omega arith

most_bases : (n count : ℕ) (parts : List PartValue) → n < count → length (bases_put n parts) ≤ bases_below count parts
most_bases n count [] h = omega arith
most_bases n count (part ∷ parts) h =
    omega (arith, most_by_kind (kind_of part.kind) part.key n count part.payload (bases_put n parts) h, most_bases n count parts h)

none_there : (payloads : List (List ℕ)) → length payloads ≡ 0 → payloads ≡ []
none_there [] e = refl
none_there (payload ∷ payloads) e = absurd (omega (arith, e))

pub no_deltas_put : (n : ℕ) (parts : List PartValue) → deltas_of n parts ≡ 0 → deltas_put n parts ≡ []
no_deltas_put n parts none = none_there (deltas_put n parts) (many_deltas n parts ∙ none)

pub no_bases_put : (n count : ℕ) (parts : List PartValue) → n < count → bases_below count parts ≡ 0 → bases_put n parts ≡ []
no_bases_put n count parts h none = none_there (bases_put n parts) (omega (arith, most_bases n count parts h, none))

-- ---- single parts

pub one_delta_put : (page : ℕ) (payload : List ℕ) → deltas_put page (delta_part page payload ∷ []) ≡ payload ∷ []
one_delta_put page payload = ap (λ (b : Bool). cond b (payload ∷ []) []) (eq-eqb page page refl)

pub one_base_put : (page : ℕ) (payload : List ℕ) → bases_put page (base_part page payload ∷ []) ≡ payload ∷ []
one_base_put page payload = ap (λ (b : Bool). cond b (payload ∷ []) []) (eq-eqb page page refl)

pub no_base_of : (page n : ℕ) (payload : List ℕ) → n ≢ page → bases_put n (base_part page payload ∷ []) ≡ []
no_base_of page n payload apart = ap (λ (b : Bool). cond b (payload ∷ []) []) (ne_eqb page n (λ e. apart (sym e)))

-- ---- deltas one behind another

pub carried_then : (xs ys : List (List ℕ)) (first second : List Change) → AreDeltasOf first xs → AreDeltasOf second ys
    → AreDeltasOf (first ++ second) (xs ++ ys)
carried_then [] ys first second are more = subst (λ (changes : List Change). AreDeltasOf (changes ++ second) ys) (sym are) more
carried_then (x ∷ xs) ys first second (here, rest, whole, is, are) more = (
  here,
  rest ++ second,
  ap (λ (changes : List Change). changes ++ second) whole ∙ append_assoc here rest second,
  is,
  carried_then xs ys rest second are more,
)

pub carried_one : (page : ℕ) (changes : List Change) (payload : List ℕ) → IsDelta payload (term_changes_of changes)
    → AreDeltasOf changes (deltas_put page (delta_part page payload ∷ []))
carried_one page changes payload is =
    subst (AreDeltasOf changes) (sym (one_delta_put page payload)) (changes, [], sym (append-nil changes), is, refl)

-- ---- what is put for a page

put_as : (merged : Bool) (changes : List Change) (bases deltas : List (List ℕ)) → 0 < length changes → IsPutBy merged changes bases deltas
    → IsPut changes bases deltas
put_as true changes bases deltas some put = inl (some, put.0, put.1)
put_as false changes bases deltas some put = inr put

pub was_merged : (merged : Bool) (changes : List Change) (bases deltas : List (List ℕ)) → IsPutBy merged changes bases deltas → 0 < length bases → merged ≡ true
was_merged true changes bases deltas put some = refl
was_merged false changes bases deltas put some = absurd (omega (arith, some, ap (λ (ps : List (List ℕ)). length ps) put.0))

pub some_in : (p : Pair) (pairs : List Pair) → has p pairs ≡ true → 0 < length pairs
some_in p [] h = absurd (cc)
some_in p (q ∷ pairs) h = omega arith

module _ (page : ℕ) (pages : List TermPage) (done run : List Change) (parts more : List PartValue) (belong : AllBelong (changed_pairs run) page pages) where
  pub settled_here : (merged : Bool) → 0 < length run → AreBefore (changed_pairs done) (low_pair page pages) → bases_put page parts ≡ []
      → deltas_put page parts ≡ []
      → IsPutBy merged run (bases_put page more) (deltas_put page more) → IsSettled page pages (done ++ run) (parts ++ more)
  settled_here merged some passed no_bases no_deltas put =
      let bases : bases_put page (parts ++ more) ≡ bases_put page more = later_bases page parts more no_bases in
      let deltas : deltas_put page (parts ++ more) ≡ deltas_put page more =
      deltas_put_more page parts more ∙ ap (λ (ps : List (List ℕ)). ps ++ deltas_put page more) no_deltas
      in
      record {
        changes = run;
        of_page = record {
          front = done;
          back = [];
          whole = sym (append-nil (done ++ run));
          belong = belong;
          none_before = λ p h of. not_both p (low_pair page pages) (passed p h) of.below;
          none_behind = λ p h of. absurd (cc);
        };
        put = subst (λ (ps : List (List ℕ)). IsPut run ps (deltas_put page (parts ++ more))) (sym bases)
            (subst (λ (ps : List (List ℕ)). IsPut run (bases_put page more) ps) (sym deltas)
            (put_as merged run (bases_put page more) (deltas_put page more) some put));
      }

  pub settled_other : (number : ℕ) → AreApart pages → number ≢ page → bases_put number more ≡ [] → deltas_put number more ≡ []
      → IsSettled number pages done parts → IsSettled number pages (done ++ run) (parts ++ more)
  settled_other number are apart no_bases no_deltas was =
      let of = was.of_page in
      let bases : bases_put number (parts ++ more) ≡ bases_put number parts = same_bases number parts more no_bases in
      let deltas : deltas_put number (parts ++ more) ≡ deltas_put number parts =
      deltas_put_more number parts more ∙ ap (λ (ps : List (List ℕ)). deltas_put number parts ++ ps) no_deltas ∙ append-nil (deltas_put number parts)
      in
      record {
        changes = was.changes;
        of_page = record {
          front = of.front;
          back = of.back ++ run;
          whole = ap (λ (changes : List Change). changes ++ run) of.whole ∙ append_assoc (of.front ++ was.changes) of.back run;
          belong = of.belong;
          none_before = of.none_before;
          none_behind = λ p h of_number.
              let parted : has p (changed_pairs of.back ++ changed_pairs run) ≡ true = sym (ap (has p) (changed_more of.back run)) ∙ h in
              ⊎_elim
              (λ (in_back : has p (changed_pairs of.back) ≡ true). of.none_behind p in_back of_number)
              (λ (not_in : has p (changed_pairs of.back) ≡ false).
              apart (one_page pages p number page are of_number
              (belong p (sym (not_in_first p (changed_pairs of.back) (changed_pairs run) not_in) ∙ parted))))
              (true_or_false (has p (changed_pairs of.back)));
        };
        put = subst (λ (ps : List (List ℕ)). IsPut was.changes ps (deltas_put number (parts ++ more))) (sym bases)
            (subst (λ (ps : List (List ℕ)). IsPut was.changes (bases_put number parts) ps) (sym deltas) was.put);
      }

pub settled_none : (number : ℕ) (pages : List TermPage) → IsSettled number pages [] []
settled_none number pages = record {
  changes = [];
  of_page = record {
    front = [];
    back = [];
    whole = refl;
    belong = λ p h. absurd (cc);
    none_before = λ p h of. absurd (cc);
    none_behind = λ p h of. absurd (cc);
  };
  put = inr (refl, record { are = refl; one = λ more. absurd (omega (arith, more)) });
}
