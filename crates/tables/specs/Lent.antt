-- What the tables that the code lends are in definitions. Assumes nothing.
use Rattle.tables.specs.declared.Tables.{Tables as Lent}
use Rattle.tables.specs.Tables.{Tables, lent_tables}

abbrev pub tables_as : Lent → Tables
tables_as t = lent_tables t.message_ticks t.slot_ticks t.counts.now t.budgets.now t.periods.now t.deadlines.now t.jitters.now
