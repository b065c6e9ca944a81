-- What an answer to an expression's text says.
use Rattle.std.specs.Prelude.{◌≡◌, ℕ, List, Result, Ok, Err, Vec}
use Rattle.std.specs.Global.{Global}
use Rattle.vkb_formula.specs.Expressions.{IsNoExpression, IsStop}
use Rattle.vkb_formula.specs.declared.depends.ExprFault.{ExprFault}
use Rattle.vkb_formula.specs.declared.depends.ExprFault.TheVariants.{BadExpression, Memory}

-- Unless memory ran out, the text is no expression, and the fault's place is where it stops to be a front of one.
abbrev pub IsFaultOf : List ℕ → ExprFault → Type 0
IsFaultOf text (BadExpression at) = IsNoExpression text × IsStop text at
IsFaultOf text Memory = Unit {0}

abbrev pub IsStopFault : {A : Type 0} → List ℕ → Result A ExprFault → Type 0
IsStopFault text (Ok value) = Unit {0}
IsStopFault text (Err fault) = IsFaultOf text fault

-- the answer is this value, unless memory ran out
abbrev pub GivesOrMemory : {A : Type 0} → A → Result A ExprFault → Type 0
GivesOrMemory value (Ok answer) = answer ≡ value
GivesOrMemory value (Err fault) = fault ≡ Memory

abbrev pub GivesItemsOrMemory : {A : Type 0} → List A → Result (Vec A Global) ExprFault → Type 0
GivesItemsOrMemory items (Ok answer) = answer.items ≡ items
GivesItemsOrMemory items (Err fault) = fault ≡ Memory
