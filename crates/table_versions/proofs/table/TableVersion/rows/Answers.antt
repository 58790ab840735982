use Rattle.table_versions.proofs.table.TableVersion.rows.Goals as goal

pub returns-clause-kept : goal.returns-clause-kept
returns-clause-kept c = rw (← c.self.view_is) c.self.invariant.placed.kept
