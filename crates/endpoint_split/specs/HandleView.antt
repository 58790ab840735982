-- A handle, without where its text lies in memory.
use Rattle.endpoint_split.specs.declared.handle.Handle.{Handle}
use Rattle.endpoint_split.specs.declared.handle.Handle.TheVariants as handles
use Rattle.endpoint_split.specs.Handle.{HandleAt, Query, Tables}

-- what a handle says, as it is held
abbrev pub handle_seen : Handle → HandleAt
handle_seen (handles.Query version range query) = Query version range.from range.to query.now
handle_seen (handles.Tables version) = Tables version
