-- What a proxied connection does to its two links, and which records it adds.
use Rattle.std.specs.Prelude.{◌≡◌, [], ◌∷◌, ◌⊎◌, ◌≤◌, ℕ, List, ◌++◌, length, map, All, Option, Result, Ok, Err}
use Rattle.mm_base.specs.Counts.{Rose}
use Rattle.mm_base.specs.Link.{LinkBytes, LinkView}
use Rattle.text_base.specs.declared.out_of_memory.OutOfMemory.{OutOfMemory}
use Rattle.mm_base.specs.declared.read_start.ReadStart.{ReadStart}
use Rattle.record_store.specs.Pairs.{Pairs}
use Rattle.record_store.specs.declared.record.Record.{Record}
use Rattle.replay_server.specs.Links.{Passed, IfBothTold, IsAtEnd}
use Rattle.replay_server.specs.Sessions.{most}
use Rattle.record_proxy.specs.Exchanges.{Exchange, recorded, requests_text, answers_text}
use Rattle.record_proxy.specs.Courses.{Side, Sides}
use Rattle.record_proxy.specs.Ends.{EndsAs, WhenBegun, ClientReady, ServerReady}
use Rattle.record_proxy.specs.declared.ends.ProxyEnd.{ProxyEnd}

-- what the two links of a connection tell
pub record Links : Type 0 where
  pub client : Option LinkBytes
  pub server : Option LinkBytes

abbrev pub links : Option LinkBytes → Option LinkBytes → Links
links client server = record { client = client; server = server }

-- A link has taken and given so, where it tells it, no more than may be taken, and was ready when each read began.
pub record IsUsed (Ready : List ℕ → List ℕ → Type 0) (old new : Option LinkBytes) (s : Side) : Type 0 where
  pub starts : List ReadStart
  pub passed : IfBothTold (Passed s.taken s.given starts) old new
  pub few : length s.taken ≤ most
  pub prompt : All (WhenBegun Ready s) starts

-- These records were added: all of them, or where memory was wanting all but the last.
abbrev pub Adds : List Record → List Record → Result ProxyEnd OutOfMemory → Type 0
Adds records added (Ok end) = added ≡ records
Adds records added (Err error) = (added ≡ records) ⊎ ((last : Record) × (records ≡ added ++ last ∷ []))

-- What a connection that ends so has done to its links, and the records that it added, with the site at that port:
-- those of the pairs of what passed, which are the requests whose whole final response was given to the client, and all
-- responses up to the last such one.
pub record IsProxied (port : ℕ) (old new : Links) (added : List Record) (result : Result ProxyEnd OutOfMemory) : Type 0
  where
    pub sides : Sides
    pub client : IsUsed ClientReady old.client new.client sides.client
    pub server : IsUsed ServerReady old.server new.server sides.server
    pub whole : List Exchange
    pub ends : EndsAs (IsAtEnd new.client) (IsAtEnd new.server) sides whole result
    pub pairs : Pairs (requests_text whole) (answers_text whole) port (Ok (map (recorded port) whole))
    pub adds : Adds (map (recorded port) whole) added result

-- The records that it added stand behind those of the store.
pub record IsStored (port : ℕ) (old new : Links) (store store' : List Record) (result : Result ProxyEnd OutOfMemory) :
    Type 0 where
  pub added : List Record
  pub behind : store' ≡ store ++ added
  pub proxied : IsProxied port old new added result

-- Such an end comes only where a fault of that link was counted.
abbrev pub HasFaultCause : ProxyEnd → LinkView → LinkView → Result ProxyEnd OutOfMemory → Type 0
HasFaultCause fault old new result = result ≡ Ok fault → Rose old.faults new.faults
