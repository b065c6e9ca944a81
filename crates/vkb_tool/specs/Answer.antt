-- The steps of a run: an answer to the words, and its delivery.
use Rattle.std.specs.Prelude.{◌≡◌, ◌≢◌, ◌⊎◌, ℕ, List, [], ◌∷◌, ◌++◌, map, Option, Some, None, IfSome, IsSome, Result, Ok, Err, All, ⊤}
use Rattle.vkb_outside.specs.Faults.{Rose}
use Rattle.vkb_outside.specs.Shelf.{Files, ChangesAtMost}
use Rattle.vkb_outside.specs.Sink.{Appends, AppendsPrefix}
use Rattle.vkb_outside.specs.declared.shelf.PutTrouble.{PutTrouble}
use Rattle.vkb_tool.specs.declared.status.Status.{Status}
use Rattle.vkb_tool.specs.declared.status.Status.TheVariants.{Done, Broken, Usage, Refused, ReadFault, WriteFault, Memory}
use Rattle.vkb_tool.specs.declared.answer.Answer.{Answer}
use Rattle.vkb_tool.specs.declared.answer.FilePut.{FilePut}
use Rattle.vkb_tool.specs.declared.answer.Trouble.{Trouble}
use Rattle.vkb_tool.specs.declared.answer.Trouble.TheVariants.{ReadFailed, NoMemory}
use Rattle.vkb_tool.specs.declared.words.Request.{Request}
use Rattle.vkb_tool.specs.Words.{Spells, IsMisplaced}
use Rattle.vkb_tool.specs.Report.{usage_line}
use Rattle.vkb_tool.specs.Outcome.{Effect, Put}
use Rattle.vkb_tool.specs.Endings.{MayPut, MayRead, RunsOut, World, IsSteady, files_after}

-- a file that is put
abbrev pub put_of : FilePut → Put
put_of put = (put.name, put.bytes)

-- what an answer leaves
abbrev pub effect_of : Answer → Effect
effect_of answer = record { status = answer.status; output = answer.output; puts = map put_of answer.puts }

-- a status with which a request is answered
abbrev pub IsRequestStatus : Status → Type 0
IsRequestStatus Done = ⊤
IsRequestStatus Broken = ⊤
IsRequestStatus Usage = ⊥
IsRequestStatus Refused = ⊤
IsRequestStatus ReadFault = ⊥
IsRequestStatus WriteFault = ⊥
IsRequestStatus Memory = ⊥

-- a request that reads is answered, and files are put only for one that puts
pub record AnswersRequest (words : List (List ℕ)) (answer : Answer) : Type 0 where
  pub request : Request
  pub asked : Spells words request
  pub reads : MayRead request
  pub is : IsRequestStatus answer.status
  pub puts : (effect_of answer).puts ≢ [] → MayPut request

-- the position of the first word that has no place is told, and nothing is put
pub record AnswersMisplaced (words : List (List ℕ)) (answer : Answer) : Type 0 where
  pub position : ℕ
  pub misplaced : IsMisplaced words position
  pub is : answer.status ≡ Usage
  pub output : answer.output ≡ usage_line position
  pub puts : (effect_of answer).puts ≡ []

-- whether the words are a request or not, and how they are answered
abbrev pub AnswersWords : List (List ℕ) → Answer → Type 0
AnswersWords words answer = AnswersRequest words answer ⊎ AnswersMisplaced words answer

-- the files that are put are there, where the shelf tells its files
abbrev pub AreHeld : Option Files → List Put → Type 0
AreHeld told puts = IfSome told (λ files. All (λ put. IsSome (files put.0)) puts)

-- the count of failed reads after an answer
abbrev pub CountsReading : ℕ → ℕ → Result Answer Trouble → Type 0
CountsReading before now (Ok answer) = now ≡ before
CountsReading before now (Err ReadFailed) = Rose before now
CountsReading before now (Err NoMemory) = now ≡ before

-- a read fails only for a request
abbrev pub IsAskedFor : List (List ℕ) → Result Answer Trouble → Type 0
IsAskedFor words (Ok answer) = ⊤
IsAskedFor words (Err ReadFailed) = (request : Request) × Spells words request × MayRead request
IsAskedFor words (Err NoMemory) = ⊤

-- what the shelf holds after puts, in order, where it tells its files; whether it tells doesn't change
abbrev pub ArePut : List Put → Option Files → Option Files → Type 0
ArePut puts None None = ⊤
ArePut puts None (Some new) = ⊥
ArePut puts (Some old) None = ⊥
ArePut puts (Some old) (Some new) = (name : List ℕ) → new name ≡ files_after puts old name

-- what the shelf holds where a put failed behind others: its own name is still held
abbrev pub IsUnput : List Put → Put → Option Files → Option Files → Type 0
IsUnput done failed None None = ⊤
IsUnput done failed None (Some new) = ⊥
IsUnput done failed (Some old) None = ⊥
IsUnput done failed (Some old) (Some new) = ChangesAtMost failed.0 (files_after done old) new

-- a put failed: those before it are done
pub record FailsAt (puts : List Put) (old new : Option Files) : Type 0 where
  pub done : List Put
  pub failed : Put
  pub left : List Put
  pub here : puts ≡ done ++ failed ∷ left
  pub unput : IsUnput done failed old new

-- what puts in order leave on the shelf, and of its count
abbrev pub PutsAll : List Put → Result (Unit {0}) PutTrouble → Option Files → Option Files → ℕ → ℕ → Type 0
PutsAll puts (Ok done) old new before now = ArePut puts old new × (now ≡ before)
PutsAll puts (Err trouble) old new before now = FailsAt puts old new × Rose before now

-- an answer was put and written
pub record IsDelivered (effect : Effect) (status : Status) (old new : World) : Type 0 where
  pub is : status ≡ effect.status
  pub put : ArePut effect.puts old.files new.files
  pub written : Appends effect.output old.written new.written
  pub steady : IsSteady old new

-- a put of an answer failed, and nothing was written
pub record IsUndelivered (effect : Effect) (status : Status) (old new : World) : Type 0 where
  pub is : status ≡ WriteFault
  pub fails : FailsAt effect.puts old.files new.files
  pub rose : Rose old.put_faults new.put_faults
  pub written : new.written ≡ old.written
  pub same_reads : new.read_faults ≡ old.read_faults
  pub same_writes : new.write_faults ≡ old.write_faults

-- an answer was put, and its write failed
pub record IsUnwrittenAnswer (effect : Effect) (status : Status) (old new : World) : Type 0 where
  pub is : status ≡ WriteFault
  pub put : ArePut effect.puts old.files new.files
  pub written : AppendsPrefix effect.output old.written new.written
  pub rose : Rose old.write_faults new.write_faults
  pub same_reads : new.read_faults ≡ old.read_faults
  pub same_puts : new.put_faults ≡ old.put_faults

-- how an answer is delivered: its files are put and then it is written, or a put or the write failed, or there was no room for it
pub data Delivers (effect : Effect) (status : Status) (old new : World) : Type 0 where
  delivered : IsDelivered effect status old new → Delivers effect status old new
  undelivered : IsUndelivered effect status old new → Delivers effect status old new
  unwritten : IsUnwrittenAnswer effect status old new → Delivers effect status old new
  unready : RunsOut status old new → Delivers effect status old new
