-- The number and the word of each refusal of a script line, as its reply has them.
use Rattle.std.specs.Prelude.{ℕ, List, codes}
use Rattle.ax_lines.specs.declared.refusal.Refusal.{Refusal}
use Rattle.ax_lines.specs.declared.refusal.Refusal.TheVariants.{Line, Command, Json, Number, Id}
use Rattle.ax_lines.specs.declared.refusal.Refusal.TheVariants.{Large, Conflict, Absent, Memory, Query, Order, Full}

abbrev pub number_of : Refusal → ℕ
number_of Line = 1
number_of Command = 2
number_of Json = 3
number_of Number = 4
number_of Id = 5
number_of Large = 6
number_of Conflict = 7
number_of Absent = 8
number_of Memory = 9
number_of Query = 10
number_of Order = 11
number_of Full = 15

abbrev pub word_of : Refusal → List ℕ
word_of Line = codes "line"
word_of Command = codes "command"
word_of Json = codes "json"
word_of Number = codes "number"
word_of Id = codes "id"
word_of Large = codes "large"
word_of Conflict = codes "conflict"
word_of Absent = codes "absent"
word_of Memory = codes "memory"
word_of Query = codes "query"
word_of Order = codes "order"
word_of Full = codes "full"
