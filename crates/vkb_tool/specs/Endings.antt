-- How a run ends: what stands afterwards on the shelf and in the sink.
use Rattle.std.specs.Prelude.{◌≡◌, ◌≢◌, ◌⊎◌, ℕ, ◌-◌, ◌^◌, ◌<◌, Option, Some, None, List, [], ◌∷◌, ◌++◌, MatchOption, ⊤, if◌then◌else◌}
use Rattle.std.specs.Str.{bytes_eq}
use Rattle.vkb_outside.specs.Faults.{Rose}
use Rattle.vkb_outside.specs.Shelf.{Files, ChangesAtMost}
use Rattle.vkb_outside.specs.Sink.{Appends, AppendsPrefix}
use Rattle.vkb_tool.specs.declared.status.Status.{Status}
use Rattle.vkb_tool.specs.declared.status.Status.TheVariants.{Done, Broken, Usage, Refused, ReadFault, WriteFault, Memory}
use Rattle.vkb_tool.specs.declared.words.Request.{Request}
use Rattle.vkb_tool.specs.declared.words.Request.TheVariants.{Build, Check, Header, Tag}
use Rattle.vkb_tool.specs.Words.{Spells, IsMisplaced}
use Rattle.vkb_tool.specs.Report.{usage_line}
use Rattle.vkb_tool.specs.Outcome.{Effect, Put, Outcome, HasNoFault}

-- What can be told of the shelf and the sink at one moment: the files and the bytes written, where they tell them, and their counts of faults.
pub record World : Type 0 where
  pub files : Option Files
  pub written : Option (List ℕ)
  pub read_faults : ℕ
  pub put_faults : ℕ
  pub write_faults : ℕ

-- no count rose: each is as before
pub record IsSteady (old new : World) : Type 0 where
  pub reads : new.read_faults ≡ old.read_faults
  pub puts : new.put_faults ≡ old.put_faults
  pub writes : new.write_faults ≡ old.write_faults

-- the files after puts, in order
abbrev pub files_after : List Put → Files → Files
files_after [] files = files
files_after ((name, bytes) ∷ puts) files = files_after puts (λ other. if bytes_eq other name then Some bytes else files other)

-- the shelf holds these files, and tells them
abbrev pub HoldsFiles : Option Files → Files → Type 0
HoldsFiles None files = ⊥
HoldsFiles (Some now) files = (name : List ℕ) → now name ≡ files name

-- nothing was put: the shelf holds what it held, and tells it where it told it
abbrev pub IsUntouched : World → World → Type 0
IsUntouched old new = new.files ≡ old.files

-- nothing was written
abbrev pub IsUnwritten : World → World → Type 0
IsUnwritten old new = new.written ≡ old.written

-- the files that a request names to be read first
abbrev pub read_by : Request → List (List ℕ)
read_by (Check None root api always) = root ∷ []
read_by (Check (Some registry) root api always) = registry ∷ root ∷ []
read_by (Build None root api names always) = root ∷ []
read_by (Build (Some registry) root api names always) = registry ∷ root ∷ []
read_by (Header registry api names) = registry ∷ []
read_by (Tag first files) = files

-- the files that a request names to be put
abbrev pub put_by : Request → List (List ℕ)
put_by (Check registry root api always) = []
put_by (Build registry root api names always) = []
put_by (Header registry api names) = []
put_by (Tag first files) = files

-- a request for which files are read from the shelf
abbrev pub MayRead : Request → Type 0
MayRead request = read_by request ≢ []

-- a request for which files are put on the shelf
abbrev pub MayPut : Request → Type 0
MayPut request = put_by request ≢ []

-- 1. The run was carried out: its output is appended, its puts are done in order, all other names stay, and no count rose.
pub record Completes (words : List (List ℕ)) (files : Files) (status : Status) (old new : World) : Type 0 where
  pub effect : Effect
  pub outcome : Outcome words files effect
  pub is : status ≡ effect.status
  pub written : Appends effect.output old.written new.written
  pub put : HoldsFiles new.files (files_after effect.puts files)
  pub steady : IsSteady old new

-- 2. A read failed. Nothing was put or written. Only a request that reads ends so.
pub record FailsReading (words : List (List ℕ)) (status : Status) (old new : World) : Type 0 where
  pub request : Request
  pub asked : Spells words request
  pub reads : MayRead request
  pub is : status ≡ ReadFault
  pub rose : Rose old.read_faults new.read_faults
  pub put : IsUntouched old new
  pub written : IsUnwritten old new
  pub same_puts : new.put_faults ≡ old.put_faults
  pub same_writes : new.write_faults ≡ old.write_faults

-- 3. A put failed: those before it are done, its own name is still held, all other names stay, and nothing was written.
pub record FailsPutting (words : List (List ℕ)) (files : Files) (status : Status) (old new : World) : Type 0 where
  pub effect : Effect
  pub outcome : Outcome words files effect
  pub done : List Put
  pub failed : Put
  pub left : List Put
  pub puts : effect.puts ≡ done ++ failed ∷ left
  pub is : status ≡ WriteFault
  pub rose : Rose old.put_faults new.put_faults
  pub held : MatchOption new.files ⊥ (ChangesAtMost failed.0 (files_after done files))
  pub written : IsUnwritten old new
  pub same_reads : new.read_faults ≡ old.read_faults
  pub same_writes : new.write_faults ≡ old.write_faults

-- 4. The write failed: the puts are done, and a prefix of the output was appended.
pub record FailsWriting (words : List (List ℕ)) (files : Files) (status : Status) (old new : World) : Type 0 where
  pub effect : Effect
  pub outcome : Outcome words files effect
  pub is : status ≡ WriteFault
  pub rose : Rose old.write_faults new.write_faults
  pub put : HoldsFiles new.files (files_after effect.puts files)
  pub written : AppendsPrefix effect.output old.written new.written
  pub same_reads : new.read_faults ≡ old.read_faults
  pub same_puts : new.put_faults ≡ old.put_faults

-- 5. There was no memory. Nothing was put or written.
pub record RunsOut (status : Status) (old new : World) : Type 0 where
  pub is : status ≡ Memory
  pub put : IsUntouched old new
  pub written : IsUnwritten old new
  pub steady : IsSteady old new

-- how a run ends on a shelf that tells its files
pub data Ending (words : List (List ℕ)) (files : Files) (status : Status) (old new : World) : Type 0 where
  completes : Completes words files status old new → Ending words files status old new
  fails_reading : FailsReading words status old new → Ending words files status old new
  fails_putting : FailsPutting words files status old new → Ending words files status old new
  fails_writing : FailsWriting words files status old new → Ending words files status old new
  runs_out : RunsOut status old new → Ending words files status old new

-- one of the statuses of a run that was carried out
abbrev pub IsCarriedOut : Status → Type 0
IsCarriedOut Done = ⊤
IsCarriedOut Broken = ⊤
IsCarriedOut Usage = ⊤
IsCarriedOut Refused = ⊤
IsCarriedOut ReadFault = ⊥
IsCarriedOut WriteFault = ⊥
IsCarriedOut Memory = ⊥

-- how a run on words that are no request ends: the position of the first that has no place is written, or a prefix of that, or nothing
abbrev pub EndsMisplaced : ℕ → Status → World → World → Type 0
EndsMisplaced position status old new = ((status ≡ Usage) × Appends (usage_line position) old.written new.written)
    ⊎ ((status ≡ WriteFault) × AppendsPrefix (usage_line position) old.written new.written)
    ⊎ ((status ≡ Memory) × IsUnwritten old new)

-- what stands of every run, whether the shelf tells its files or not
pub record IsAlways (words : List (List ℕ)) (status : Status) (old new : World) : Type 0 where
  -- `Usage` comes only where the words are no request
  pub usage : status ≡ Usage → (position : ℕ) × IsMisplaced words position
  pub misplaced : (position : ℕ) → IsMisplaced words position → EndsMisplaced position status old new
  -- the shelf is looked at for a request that reads alone
  pub apart : ((request : Request) → Spells words request → ¬ (MayRead request)) → IsUntouched old new × (new.read_faults ≡ old.read_faults) × (new.put_faults ≡ old.put_faults)
  -- a run is carried out only where no count rose
  pub steady : IsCarriedOut status → IsSteady old new
  pub reading : status ≡ ReadFault → FailsReading words status old new
  pub writing : status ≡ WriteFault → Rose old.write_faults new.write_faults ⊎ ((request : Request) × Spells words request × MayPut request × Rose old.put_faults new.put_faults)
  pub read : status ≡ WriteFault → new.read_faults ≡ old.read_faults
  pub memory : status ≡ Memory → RunsOut status old new

-- a count of faults neither rose nor stands at its type's end
abbrev pub IsUnfailing : ℕ → ℕ → Type 0
IsUnfailing before now = (now ≡ before) × (now < 2 ^ 64 - 1)

-- nothing outside failed
pub record IsFaultless (old new : World) : Type 0 where
  pub reads : IsUnfailing old.read_faults new.read_faults
  pub puts : IsUnfailing old.put_faults new.put_faults
  pub writes : IsUnfailing old.write_faults new.write_faults

-- Where nothing outside failed and no named fault stands in what is asked, the run is carried out with `Done` or `Broken`, or
-- there was no memory.
abbrev pub IsComplete : List (List ℕ) → Files → Status → World → World → Type 0
IsComplete words files status old new = IsFaultless old new → (request : Request) → Spells words request → HasNoFault request files
    → (Completes words files status old new × ((status ≡ Done) ⊎ (status ≡ Broken))) ⊎ RunsOut status old new
