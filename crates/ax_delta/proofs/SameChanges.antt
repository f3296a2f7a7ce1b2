-- The term changes of changes hold these changes, in order.
use Rattle.std.proofs.Common.{◌≡◌, ℕ, ◌<◌, ◌≤◌, List, [], ◌∷◌, ◌++◌, length, get_or, arith, refl, ap, ◌∙◌, sym, Bool, true, false, cond, nat_lt, suc}
use Rattle.std.proofs.lemmas.Bool.{lt-ltb, le-ltb}
use Rattle.std.proofs.lemmas.List.{append_assoc}
use Rattle.std.proofs.lemmas.Slice.Eq.{bytes_eq-Decides}
use Rattle.std.specs.Str.{bytes_eq}
use Rattle.ax_pair.specs.declared.pair.Pair.{Pair}
use Rattle.ax_pair.specs.Order.{Rise, RiseAfter}
use Rattle.ax_leaf.proofs.Grouping.{numbers_rise}
use Rattle.ax_delta.specs.declared.change.Change.{Change}
use Rattle.ax_delta.specs.Changes.{changed_pairs, with_added, with_dropped, term_changes_from, term_changes_of, change_at, drops_with, add_among}
use Rattle.ax_delta.specs.Changes.{changes_with, changes_of}
use Rattle.ax_delta.specs.Said.{said_of, said_by}
use Rattle.ax_delta.proofs.Grouping.{IsUpTo, more, one, fit, terms_of_rise, apart_from}
use Rattle.ax_delta.proofs.Saying.{same_said}

abbrev AllUnder : ℕ → List ℕ → Type 0
AllUnder n [] = Unit {0}
AllUnder n (x ∷ list) = (x < n) × AllUnder n list

all_under : (list : List ℕ) (m n : ℕ) → ((k : ℕ) → k < length list → get_or list k 0 ≤ m) → m < n → AllUnder n list
all_under [] m n h l = tt
all_under (x ∷ list) m n h l =
    let first : x ≤ m = h 0 (omega arith) in
    (omega arith, all_under list m n (λ k i. h (suc k) (omega arith)) l)

-- ---- one change more

add_last : (term : List ℕ) (n : ℕ) (drops : List ℕ) → AllUnder n drops → add_among term n (drops_with term) drops ≡ drops_with term drops
    ++ change_at true term n ∷ []
add_last term n [] h = refl
add_last term n (d ∷ drops) h = rw (lt-ltb d n h.0) (ap (λ (cs : List Change). change_at false term d ∷ cs) (add_last term n drops h.1))

among_last : (term : List ℕ) (x n : ℕ) (others longer : List ℕ → List Change) (last : List Change)
    → ((ds : List ℕ) → AllUnder n ds → longer ds ≡ others ds ++ last)
    → (drops : List ℕ) → AllUnder n drops → add_among term x longer drops ≡ add_among term x others drops ++ last
among_last term x n others longer last k [] h = ap (λ (cs : List Change). change_at true term x ∷ cs) (k [] tt)
among_last term x n others longer last k (d ∷ drops) h =
    elim (nat_lt d x) as
    (λ b. cond b (change_at false term d ∷ add_among term x longer drops) (change_at true term x ∷ longer (d ∷ drops))
    ≡ cond b (change_at false term d ∷ add_among term x others drops) (change_at true term x ∷ others (d ∷ drops)) ++ last) [
      | true ↦ ap (λ (cs : List Change). change_at false term d ∷ cs) (among_last term x n others longer last k drops h.1)
      | false ↦ ap (λ (cs : List Change). change_at true term x ∷ cs) (k (d ∷ drops) h)
    ]

grown_add : (term : List ℕ) (n : ℕ) (adds drops : List ℕ) → AllUnder n drops
    → changes_with term (adds ++ n ∷ []) drops ≡ changes_with term adds drops ++ change_at true term n ∷ []
unfolding changes_with
grown_add term n [] drops h = add_last term n drops h
grown_add term n (x ∷ adds) drops h =
    among_last term x n (changes_with term adds) (changes_with term (adds ++ n ∷ [])) (change_at true term n ∷ []) (λ ds k. grown_add term n adds ds k) drops h

drops_last : (term : List ℕ) (n : ℕ) (drops : List ℕ) → drops_with term (drops ++ n ∷ []) ≡ drops_with term drops ++ change_at false term n ∷ []
drops_last term n [] = refl
drops_last term n (d ∷ drops) = ap (λ (cs : List Change). change_at false term d ∷ cs) (drops_last term n drops)

drop_among : (term : List ℕ) (x n : ℕ) (others : List ℕ → List Change) → x < n
    → ((ds : List ℕ) → others (ds ++ n ∷ []) ≡ others ds ++ change_at false term n ∷ [])
    → (drops : List ℕ) → add_among term x others (drops ++ n ∷ []) ≡ add_among term x others drops ++ change_at false term n ∷ []
drop_among term x n others l k [] = rw (le-ltb n x (omega arith)) (ap (λ (cs : List Change). change_at true term x ∷ cs) (k []))
drop_among term x n others l k (d ∷ drops) =
    elim (nat_lt d x) as
    (λ b. cond b (change_at false term d ∷ add_among term x others (drops ++ n ∷ [])) (change_at true term x ∷ others (d ∷ drops ++ n ∷ []))
    ≡ cond b (change_at false term d ∷ add_among term x others drops) (change_at true term x ∷ others (d ∷ drops)) ++ change_at false term n ∷ []) [
      | true ↦ ap (λ (cs : List Change). change_at false term d ∷ cs) (drop_among term x n others l k drops)
      | false ↦ ap (λ (cs : List Change). change_at true term x ∷ cs) (k (d ∷ drops))
    ]

grown_drop : (term : List ℕ) (n : ℕ) (adds : List ℕ) → AllUnder n adds → (drops : List ℕ)
    → changes_with term adds (drops ++ n ∷ []) ≡ changes_with term adds drops ++ change_at false term n ∷ []
unfolding changes_with
grown_drop term n [] h drops = drops_last term n drops
grown_drop term n (x ∷ adds) h drops = drop_among term x n (changes_with term adds) h.0 (λ ds. grown_drop term n adds h.1 ds) drops

grown : (add : Bool) (term adds drops : List ℕ) (m n : ℕ) → IsUpTo adds drops m → m < n
    → changes_with term (cond add (adds ++ n ∷ []) adds) (cond add drops (drops ++ n ∷ [])) ≡ changes_with term adds drops ++ change_at add term n ∷ []
grown true term adds drops m n up l = grown_add term n adds drops (all_under drops m n up.under l)
grown false term adds drops m n up l = grown_drop term n adds (all_under adds m n up.below l) drops

alone : (add : Bool) (term : List ℕ) (n : ℕ) → changes_with term (cond add (n ∷ []) []) (cond add [] (n ∷ [])) ≡ change_at add term n ∷ []
unfolding changes_with
alone true term n = refl
alone false term n = refl

-- ---- all changes

at_term : (q : Change) (term : List ℕ) → q.pair.term ≡ term → change_at q.add term q.pair.number ≡ q
at_term q term e = ap (λ (t : List ℕ). change_at q.add t q.pair.number) (sym e)

made_from : (term adds drops : List ℕ) (p : Change) (changes : List Change) → IsUpTo adds drops p.pair.number → p.pair.term ≡ term
    → RiseAfter p.pair (changed_pairs changes)
    → changes_of (term_changes_from term adds drops changes) ≡ changes_with term adds drops ++ changes
unfolding term_changes_from changes_of
made_from term adds drops p [] up e rise = refl
made_from term adds drops p (q ∷ changes) up e rise =
    elim (bytes_eq q.pair.term term) as
    (λ b. bytes_eq q.pair.term term ≡ b
    → changes_of (cond b (term_changes_from term (with_added adds q) (with_dropped drops q) changes)
    (record { term = term; added = adds; dropped = drops } ∷ term_changes_from q.pair.term (with_added [] q) (with_dropped [] q) changes))
    ≡ changes_with term adds drops ++ q ∷ changes) [
      | true ↦ λ h.
          let same : q.pair.term ≡ term = (bytes_eq-Decides q.pair.term term).0 h in
          let l : p.pair.number < q.pair.number = numbers_rise p.pair q.pair (same ∙ sym e) rise.0 in
          made_from term (with_added adds q) (with_dropped drops q) q changes (more q.add adds drops p.pair.number q.pair.number up l) same rise.1
          ∙ ap (λ (cs : List Change). cs ++ changes) (grown q.add term adds drops p.pair.number q.pair.number up l)
          ∙ append_assoc (changes_with term adds drops) (change_at q.add term q.pair.number ∷ []) changes
          ∙ ap (λ (c : Change). changes_with term adds drops ++ c ∷ changes) (at_term q term same)
      | false ↦ λ h.
          ap (λ (cs : List Change). changes_with term adds drops ++ cs)
          (made_from q.pair.term (with_added [] q) (with_dropped [] q) q changes (one q.add q.pair.number) refl rise.1
          ∙ ap (λ (cs : List Change). cs ++ changes) (alone q.add q.pair.term q.pair.number))
    ] refl

pub same_changes : (changes : List Change) → Rise (changed_pairs changes) → changes_of (term_changes_of changes) ≡ changes
unfolding term_changes_of changes_of
same_changes [] rise = refl
same_changes (p ∷ changes) rise =
    made_from p.pair.term (with_added [] p) (with_dropped [] p) p changes (one p.add p.pair.number) refl rise
    ∙ ap (λ (cs : List Change). cs ++ changes) (alone p.add p.pair.term p.pair.number)

pub said_alike : (changes : List Change) (p : Pair) → Rise (changed_pairs changes) → said_of p (term_changes_of changes) ≡ said_by p changes
said_alike changes p rise =
    same_said p (term_changes_of changes) (apart_from (term_changes_of changes) (fit changes rise)) (terms_of_rise changes rise)
    ∙ ap (said_by p) (same_changes changes rise)
