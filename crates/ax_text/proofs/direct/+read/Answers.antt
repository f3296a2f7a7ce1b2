-- By the token that comes first; in the loops a turn at a time.
use Rattle.std.proofs.Common.{◌≡◌, ◌-◌, ◌<◌, ◌∷◌, ◌++◌, insert, length, option_map, Some, None, refl, sym, ap, ◌∙◌, arith, rules}
use Rattle.json.specs.Token.{Token}
use Rattle.json.specs.Json as json
use Rattle.json.specs.Json.{parse_map, after_end_array, read_key, items, members, value}
use Rattle.json.specs.Reads.{token_of}
use Rattle.json.proofs.Grammar.{value_is, value-begin_array, value-begin_object, read_key-shorter}
use Rattle.serde_json.specs.Data as serde
use Rattle.serde_json.specs.Read.{converted}
use Rattle.ax_tree.specs.Names.{names}
use Rattle.ax_tree.specs.Rising.{is_rising}
use Rattle.ax_tree.specs.declared.tree.Tree as tree
use Rattle.ax_text.specs.OfJson.{tree_of_json, items_of_json}
use Rattle.ax_text.specs.Places.{IsPlace}
use Rattle.ax_text.proofs.Placing.{place-within, put_in_place, rising_in_place}
use Rattle.ax_text.proofs.Turns.{converted-list, converted-map, IfSome-weaker, item_read, items_over, member_read, members_over, one_more_item, none_behind}
use Rattle.ax_text.proofs.direct.+read.Goals as goal

pub read-returns-in-String-clause-tree : goal.read-returns-in-String-clause-tree
read-returns-in-String-clause-tree t c =
    let first : c.args.reader.now ≡ token_of c.in_ok-token.token ∷ c.next.new.self = grind arith in
    let is : c.args.reader.now ≡ Token.string c.in-String.text.now ∷ c.next.new.self =
    grind (arith, first) in
    let read : converted tree_of_json (value c.args.depth c.args.reader.now)
    ≡ Some (tree.Text c.in-String.text.now, c.next.new.self) =
    ap (converted tree_of_json) (ap (value c.args.depth) is ∙ value_is c.args.depth _) in
    IfSome-weaker c.text_from.result (λ made. made ≡ tree.Text c.in-String.text.now)
    (λ made. converted tree_of_json (value c.args.depth c.args.reader.now)
    ≡ Some (made, c.next.new.self))
    (λ made e. read ∙ ap (λ z. Some (z, c.next.new.self)) (sym e)) c.text_from.ensures

pub read-returns-in-Number-clause-tree : goal.read-returns-in-Number-clause-tree
read-returns-in-Number-clause-tree t c =
    let first : c.args.reader.now ≡ token_of c.in_ok-token.token ∷ c.next.new.self = grind arith in
    let is : c.args.reader.now ≡ Token.number c.in-Number.text.now ∷ c.next.new.self =
    grind (arith, first) in
    let written = json.number c.in-Number.text.now in
    IfSome-weaker c.number_from_text.result (λ made. tree_of_json written ≡ Some made)
    (λ made. converted tree_of_json (value c.args.depth c.args.reader.now)
    ≡ Some (made, c.next.new.self))
    (λ made e. ap (converted tree_of_json) (ap (value c.args.depth) is ∙ value_is c.args.depth _)
    ∙ ap (λ o. option_map (λ b. (b, c.next.new.self)) o) e)
    c.number_from_text.ensures

pub read-returns-in-Bool-clause-tree : goal.read-returns-in-Bool-clause-tree
read-returns-in-Bool-clause-tree t c =
    let first : c.args.reader.now ≡ token_of c.in_ok-token.token ∷ c.next.new.self = grind arith in
    let is : c.args.reader.now ≡ Token.boolean c.in-Bool.value ∷ c.next.new.self =
    grind (arith, first) in
    ap (converted tree_of_json) (ap (value c.args.depth) is ∙ value_is c.args.depth _)

pub read-returns-in-Null-clause-tree : goal.read-returns-in-Null-clause-tree
read-returns-in-Null-clause-tree t c =
    let first : c.args.reader.now ≡ token_of c.in_ok-token.token ∷ c.next.new.self = grind arith in
    let is : c.args.reader.now ≡ Token.null ∷ c.next.new.self = grind (arith, first) in
    ap (converted tree_of_json) (ap (value c.args.depth) is ∙ value_is c.args.depth _)

pub read-returns-in_ok-read_items-in-BeginArray-clause-tree :
    goal.read-returns-in_ok-read_items-in-BeginArray-clause-tree
read-returns-in_ok-read_items-in-BeginArray-clause-tree t c =
    let first : c.args.reader.now ≡ token_of c.in_ok-token.token ∷ c.next.new.self = grind arith in
    let found = c.in_ok-read_items-in-BeginArray in
    ap (converted tree_of_json)
    (ap (value c.args.depth)
    (first ∙ ap (λ k. token_of k ∷ c.next.new.self) c.in-BeginArray.is)
    ∙ value-begin_array c.args.depth c.next.new.self (omega arith))
    ∙ converted-list (items (value (c.args.depth - 1)) (length c.next.new.self) c.next.new.self)
    ∙ ap (parse_map tree.List) found.ensures.items

pub read-returns-in_ok-read_members-in-BeginObject-clause-tree :
    goal.read-returns-in_ok-read_members-in-BeginObject-clause-tree
read-returns-in_ok-read_members-in-BeginObject-clause-tree t c =
    let first : c.args.reader.now ≡ token_of c.in_ok-token.token ∷ c.next.new.self = grind arith in
    let found = c.in_ok-read_members-in-BeginObject in
    ap (converted tree_of_json)
    (ap (value c.args.depth)
    (first ∙ ap (λ k. token_of k ∷ c.next.new.self) c.in-BeginObject.is)
    ∙ value-begin_object c.args.depth c.next.new.self (omega arith))
    ∙ converted-map (members (value (c.args.depth - 1)) (length c.next.new.self) c.next.new.self)
    ∙ ap (parse_map tree.Object) found.ensures.members

pub read_items-items-preserved : goal.read_items-items-preserved
read_items-items-preserved t c =
    let p = value c.args.depth in
    let l = c.items in
    let n = l.invariant.0 in
    let going : (after_end_array l.reader ≡ None) × (c.take_end_array.new.self ≡ l.reader) =
    grind arith in
    let done = c.in_ok-item.ensures in
    let v = c.in_ok-item.item in
    let r = c.read.new.reader in
    let less : length r < length l.reader = rw (← going.1) (done.shorter refl) in
    let turn = item_read p n l.reader r v (omega (arith, l.invariant.1)) going.0
    (rw (← going.1) done.tree) in (
      n - 1,
      omega (arith, l.invariant.1),
      l.invariant.2
          ∙ ap (parse_map (λ rest. l.found.items ++ rest)) turn
          ∙ one_more_item l.found.items v (converted items_of_json (items p (n - 1) r))
          ∙ ap (λ made. parse_map (λ rest. made ++ rest)
          (converted items_of_json (items p (n - 1) r))) (sym c.in-Ok.ensures.items),
      omega (arith, l.invariant.3),
    )

pub read_items-returns-clause-items : goal.read_items-returns-clause-items
read_items-returns-clause-items t c =
    let p = value c.args.depth in
    let l = c.items in
    let n = l.invariant.0 in
    let r = c.take_end_array.new.self in
    l.invariant.2
    ∙ ap (parse_map (λ rest. l.found.items ++ rest))
    (items_over p n l.reader r l.invariant.1 (grind arith))
    ∙ none_behind l.found.items r
    ∙ ap (λ made. Some (made, r)) (sym c.from_vec.ensures)

pub read_members-members-init : goal.read_members-members-init
read_members-members-init t c = (
  serde.no_members,
  length c.args.reader.now,
  omega arith,
  ap Some (sym c.new-found.ensures.items),
  ap (λ made. is_rising (names made)) c.new-found.ensures.items,
  refl,
  omega arith,
)

pub read_members-insert-requires : goal.read_members-insert-requires
read_members-insert-requires t c =
    let is : IsPlace c.in-Some.name.now (names c.members.found.items) c.in_ok-place.place =
    rw (← c.as_slice.ensures.value) c.in_ok-place.ensures in
    omega (arith, place-within c.in-Some.name.now c.members.found.items c.in_ok-place.place is)

pub read_members-members-preserved : goal.read_members-members-preserved
read_members-members-preserved t c =
    let p = value c.args.depth in
    let l = c.members in
    let i = l.invariant in
    let k = c.in-Some.name.now in
    let s = c.next_key.new.self in
    let r = c.read.new.reader in
    let v = c.in_ok-value.value in
    let place = c.in_ok-place.place in
    let named : read_key l.reader ≡ Some (Some k, s) = grind arith in
    let less = read_key-shorter l.reader (Some k) s named in
    let lesser = c.in_ok-value.ensures.shorter refl in
    let turn = member_read p i.0 i.1 k l.reader s r v (omega (arith, i.2)) named
    c.in_ok-value.ensures.tree in
    let is : IsPlace k (names l.found.items) place =
    rw (← c.as_slice.ensures.value) c.in_ok-place.ensures in
    let copied : c.from_string-name.result ≡ k = search rules in
    let inserted : c.insert.new.self.items
    ≡ insert l.found.items place (record { name = k; value = v }) =
    c.in-Ok.ensures.items
    ∙ ap (λ name. insert l.found.items place (record { name = name; value = v })) copied in (
      serde.put k turn.0 i.0,
      i.1 - 1,
      omega (arith, i.2),
      put_in_place k turn.0 v turn.1 i.0 l.found.items place i.3 is ∙ ap Some (sym inserted),
      ap (λ made. is_rising (names made)) inserted
          ∙ rising_in_place k turn.0 v turn.1 i.0 l.found.items place i.3 is i.4,
      i.5 ∙ turn.2,
      omega (arith, i.6),
    )

pub read_members-returns-clause-members : goal.read_members-returns-clause-members
read_members-returns-clause-members t c =
    let p = value c.args.depth in
    let l = c.members in
    let i = l.invariant in
    let r = c.next_key.new.self in
    i.5 ∙ members_over p i.0 l.found.items i.1 l.reader r i.3 i.2 (grind arith)
    ∙ ap (λ made. Some (made, r)) (sym c.from_vec.ensures)
