-- What a relay is asked for, by its words.
use Rattle.std.specs.Prelude.{ℕ, List, [], ◌∷◌, Option, Some, None, option_and_then}
use Rattle.text_base.specs.Numbers.{decimal_of}
use Rattle.option_words.specs.Commands.{table_of}
use Rattle.option_words.specs.Givens.{◌>>=◌}
use Rattle.option_words.specs.Numbers.{number_within, port_of, seed_of}
use Rattle.option_words.specs.Shells.{split_words}
use Rattle.option_words.specs.declared.command.Command.TheVariants.{Relay}
use Rattle.command_ends.specs.Causes.{Text}

-- its horizon in milliseconds, the port at which it listens for the client, the server's port, how many turns it takes
-- at most, the names of the files of the fates, and of the table and the schedule, if they are asked for, its seed, and
-- the words of its shells
pub record RelayJob : Type 0 where
  pub horizon : ℕ
  pub listen : ℕ
  pub to : ℕ
  pub turns : ℕ
  pub out : Text
  pub table : Option Text
  pub schedule_out : Option Text
  pub seed : ℕ
  pub shells : List Text

-- The job of what is given of each option, and of the words of the shells. The numbers are decimals within their ranges;
-- all but `--table`, `--schedule-out` and `--seed` must be there.
unfoldable pub relay_from : List (Option Text) → List Text → Option RelayJob
relay_from (until ∷ listen ∷ to ∷ turns ∷ out ∷ table ∷ schedule_out ∷ seed ∷ []) shells = do
  given_until ← until
  horizon ← decimal_of given_until
  given_listen ← listen
  client_port ← port_of given_listen
  given_to ← to
  server_port ← port_of given_to
  given_turns ← turns
  most_turns ← number_within 1 1000000 given_turns
  number ← seed_of seed
  given_out ← out
  Some (record {
    horizon = horizon;
    listen = client_port;
    to = server_port;
    turns = most_turns;
    out = given_out;
    table = table;
    schedule_out = schedule_out;
    seed = number;
    shells = shells;
  })
relay_from _ shells = None

-- The job of a relay's words.
unfoldable pub relay_of : List Text → Option RelayJob
relay_of words = option_and_then (λ split. relay_from split.given split.shells) (split_words (table_of Relay) words)
