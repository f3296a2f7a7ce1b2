-- What is spelled as a term change, or as term changes, is read so.
use Rattle.std.proofs.Common.{◌≡◌, ℕ, ◌-◌, List, [], ◌∷◌, ◌++◌, length, take, drop, refl, ap, ◌∙◌, sym, subst, Option, Some}
use Rattle.std.proofs.lemmas.List.{append_assoc, append-nil, take_at, drop_at, length-drop}
use Rattle.ax_gap.specs.Gaps.{gaps}
use Rattle.ax_gap.specs.Varint.{varint}
use Rattle.ax_gap.proofs.VarintLaws.{first_varint_again}
use Rattle.ax_leaf.specs.Payload.{common, term_after}
use Rattle.ax_leaf.specs.ShortTerm.{short_term, whole_term}
use Rattle.ax_leaf.proofs.OneSpelling as one
use Rattle.ax_leaf.proofs.Read.{list_again}
use Rattle.ax_leaf.proofs.ShortTerms.{short_parts}
use Rattle.ax_delta.specs.Changes.{TermChange}
use Rattle.ax_delta.specs.ChangeList.{Begins, Spells}
use Rattle.ax_delta.specs.Payload.{list_after, AreGood, IsTermChange}
use Rattle.ax_delta.specs.Reading.{first_change, put_before, changes_in}

abbrev pub found : TermChange → List ℕ → Option (TermChange × List ℕ)
found change rest = Some (change, rest)

-- a term change of these parts is read, whatever follows it
pub first_read : (last bytes : List ℕ) (shared : ℕ) (part adds drops after : List ℕ) → Begins bytes shared part adds drops after
    → first_change last bytes ≡ found (record { term = whole_term last shared part; added = adds; dropped = drops }) after
unfolding first_change
first_read last bytes shared part adds drops after h =
    let rest : List ℕ = gaps adds ++ (gaps drops ++ after) in
    let split : bytes ≡ varint shared ++ (varint (length part) ++ (part ++ rest)) = short_parts bytes shared part rest h.spelled in
    let taken : take (length part) (part ++ rest) ≡ part = take_at part rest (length part) refl in
    let left : drop (length part) (part ++ rest) ≡ rest = drop_at part rest (length part) refl in
    rw (
      split,
      first_varint_again shared (varint (length part) ++ (part ++ rest)),
      first_varint_again (length part)
          (part ++ rest),
      taken,
      left,
      list_again adds (gaps drops ++ after) h.additions,
      list_again drops after h.removals,
    ) refl

-- a spelled list begins with its first term change
pub list_begins : (last rest : List ℕ) (change : TermChange) (changes : List TermChange) → IsTermChange change
    → Begins (list_after last (change ∷ changes) ++ rest) (common last change.term) (drop (common last change.term) change.term) change.added change.dropped
    (list_after change.term changes ++ rest)
unfolding list_after term_after short_term
list_begins last rest change changes is =
    let c : ℕ = common last change.term in
    let part : List ℕ = drop c change.term in
    let more : List ℕ = list_after change.term changes in
    let size : varint c ++ varint (length change.term - c) ++ part ≡ varint c ++ varint (length part) ++ part =
    ap (λ (n : ℕ). varint c ++ varint n ++ part) (sym (length-drop c change.term))
    in
    record {
      spelled = append_assoc (varint c ++ varint (length change.term - c) ++ part ++ gaps change.added ++ gaps change.dropped) more rest
          ∙ append_assoc (varint c ++ varint (length change.term - c) ++ part ++ gaps change.added) (gaps change.dropped) (more ++ rest)
          ∙ append_assoc (varint c ++ varint (length change.term - c) ++ part) (gaps change.added) (gaps change.dropped ++ (more ++ rest))
          ∙ ap (λ (bs : List ℕ). bs ++ (gaps change.added ++ (gaps change.dropped ++ (more ++ rest)))) size;
      some = is.some;
      additions = is.additions;
      removals = is.removals;
    }

one_change : (last : List ℕ) (change : TermChange)
    → (record {
      term = whole_term last (common last change.term) (drop (common last change.term) change.term);
      added = change.added;
      dropped =
          change.dropped;
    }) ≡ change
one_change last change = ap (λ (t : List ℕ). record { term = t; added = change.added; dropped = change.dropped }) (sym (one.whole_term last change.term))

pub list_read : (last rest : List ℕ) (change : TermChange) (changes : List TermChange) → IsTermChange change
    → first_change last (list_after last (change ∷ changes) ++ rest) ≡ found change (list_after change.term changes ++ rest)
list_read last rest change changes is =
    first_read last _ _ _ _ _ _ (list_begins last rest change changes is)
    ∙ ap (λ (p : TermChange). found p (list_after change.term changes ++ rest)) (one_change last change)

-- spelled term changes are read, and no others
read_again : (changes : List TermChange) (last rest : List ℕ) → AreGood changes → changes_in (length changes) last (list_after last changes ++ rest) ≡ changes
unfolding changes_in
read_again [] last rest h = refl
read_again (change ∷ changes) last rest h =
    ap (put_before (changes_in (length changes))) (list_read last rest change changes h.0)
    ∙ ap (λ (ps : List TermChange). change ∷ ps) (read_again changes change.term rest h.1)

pub seen_as : (last bytes : List ℕ) (count : ℕ) (changes : List TermChange) → AreGood changes → length changes ≡ count → bytes ≡ list_after last changes
    → changes_in count last bytes ≡ changes
seen_as last bytes count changes good counted spelled =
    ap (λ (n : ℕ). changes_in n last bytes) (sym counted)
    ∙ ap (changes_in (length changes) last) (spelled ∙ sym (append-nil (list_after last changes)))
    ∙ read_again changes last [] good

pub spells : (last bytes : List ℕ) (count : ℕ) (changes : List TermChange) → AreGood changes → length changes ≡ count → bytes ≡ list_after last changes
    → Spells last count bytes
spells last bytes count changes good counted spelled =
    let same : changes ≡ changes_in count last bytes = sym (seen_as last bytes count changes good counted spelled) in
    record {
      spelled = spelled ∙ ap (list_after last) same;
      counted = sym (ap length same) ∙ counted;
      good = subst AreGood same good;
    }
